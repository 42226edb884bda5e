-- `totals::tally::choose` meets its contract. The loop's invariant: the tally has taken every cell so far.
use mathlib.Core.Path.{refl, sym, ◌∙◌}
use Prim.Native.Nat.{ℕ}
use native.Mathlib.Omega.{arith}
use Rattle.values.specs.declared.Outcome.{Outcome}
use Rattle.memory.specs.declared.Bank.TheVariants.{R}
use Rattle.memory.specs.Cells.{read_rule}
use Rattle.memory.proofs.Laws.{memory-laws}
use Rattle.totals.specs.declared.Step.TheVariants as S
use Rattle.totals.proofs.Middle.{stopped, wrong}
use Rattle.totals.proofs.tally.Reals.{Alike, begins, tallied-begin, tallied-ends, tallied-unread, of-reals, choice-on}
use Rattle.totals.proofs.tally.choose.Goals as goal
use Rattle.totals.proofs.tally.choose.Goals.{Start}

abbrev cells : Start → ℕ → Outcome
cells c = read_rule c.args.image.now R

alike : (c : Start) → Alike (S.Choose c.args.o) (cells c)
alike c = of-reals (S.Choose c.args.o) (cells c) (λ j. memory-laws.read-kind c.args.image.now R j)

pub loop-k-init : goal.loop-k-init
loop-k-init c =
    let s = (goal.at.loop-k-init c).Start in
    rw (c.begin-t.ensures, c.first_real.ensures)
    (tallied-begin (S.Choose s.args.o) (cells s) _ s.args.first s.args.count _
    (begins (S.Choose s.args.o) (cells s) s.args.first s.args.count s.requires.0
    (memory-laws.read-kind s.args.image.now R s.args.first)))

pub loop-k-preserved : goal.loop-k-preserved
loop-k-preserved c =
    let s = (goal.at.loop-k-preserved c).Start in
    let t = c.step-t in
    let q = sym c.read-cell.ensures ∙ c.in-Done.is in
    let x = c.as_real in
    (choice-on (S.Choose s.args.o) (cells s) _ s.args.first s.args.count (alike s)
    c.loop-k.invariant
    c.loop-k-test.true (omega (arith, s.requires.1)) _ q x.result x.ensures
    t.result t.ensures refl refl)

pub returns-in-Stopped : goal.returns-in-Stopped
returns-in-Stopped c =
    let s = (goal.at.returns-in-Stopped c).Start in
    rw c.ended.ensures
    (tallied-unread (S.Choose s.args.o) (cells s) _ s.args.first s.args.count
    c.loop-k.invariant
    c.loop-k-test.true _
    (sym c.read-cell.ensures ∙ c.in-Stopped.is) (stopped _))

pub returns-in-WrongKind : goal.returns-in-WrongKind
returns-in-WrongKind c =
    let s = (goal.at.returns-in-WrongKind c).Start in
    rw c.ended-in-WrongKind.ensures
    (tallied-unread (S.Choose s.args.o) (cells s) _ s.args.first s.args.count
    c.loop-k.invariant c.loop-k-test.true _
    (sym c.read-cell.ensures ∙ c.in-WrongKind.is) (wrong))

pub returns : goal.returns
returns c =
    let s = (goal.at.returns c).Start in
    rw (c.ended-2.ensures, c.reading.ensures)
    (tallied-ends (S.Choose s.args.o) (cells s) _ s.args.first s.args.count c.loop-k.invariant
    c.loop-k-test.false c.loop-k.auto.k-end)
