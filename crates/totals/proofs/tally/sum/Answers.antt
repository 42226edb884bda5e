-- `totals::tally::sum` meets its contract. The loop's invariant: the tally has taken every cell so far.
use mathlib.Core.Path.{sym, ◌∙◌}
use mathlib.Core.Bool.{true, false}
use Prim.Native.Nat.{ℕ}
use native.Mathlib.Omega.{arith}
use Rattle.values.specs.declared.Outcome.{Outcome}
use Rattle.memory.specs.declared.Bank.TheVariants.{R}
use Rattle.memory.specs.Cells.{read_rule}
use Rattle.memory.proofs.Laws.{memory-laws}
use Rattle.totals.specs.private.Steps.{sum_step}
use Rattle.totals.proofs.Middle.{stopped, wrong}
use Rattle.totals.proofs.tally.Reals.{Alike, begins-sum, tallied-begin, tallied-ends}
use Rattle.totals.proofs.tally.Reals.{tallied-unread, of-reals, sum-takes, sum-sums, sum-on, sum-lost}
use Rattle.totals.proofs.tally.sum.Goals as goal
use Rattle.totals.proofs.tally.sum.Goals.{Start}

abbrev cells : Start → ℕ → Outcome
cells c = read_rule c.args.image.now R

alike : (c : Start) → Alike (sum_step c.args.averaged) (cells c)
alike c = of-reals (sum_step c.args.averaged) (cells c) (λ j. memory-laws.read-kind c.args.image.now R j)

pub loop-k-init : goal.loop-k-init
loop-k-init c =
    let s = (goal.at.loop-k-init c).Start in
    rw c.begin-t.ensures
    (tallied-begin (sum_step s.args.averaged) (cells s) _ s.args.first s.args.count _
    (begins-sum s.args.averaged _ (cells s) s.args.first s.args.count))

pub returns-then-not-is_finite : goal.returns-then-not-is_finite
returns-then-not-is_finite c =
    let s = (goal.at.returns-then-not-is_finite c).Start in
    let t = c.step-t in
    let q = sym c.read-cell.ensures
    ∙ c.in-Done.is in
    let x = c.as_real in
    rw (c.ended.ensures, c.settled.ensures)
    (sum-lost (sum_step s.args.averaged) (cells s) _ s.args.first s.args.count (alike s)
    c.loop-k.invariant
    c.loop-k-test.true (omega (arith, s.requires)) _ q x.result x.ensures
    t.result t.ensures (sum-takes s.args.averaged x.result) (sum-sums s.args.averaged)
    (sym c.is_finite.ensures ∙ c.if-not-is_finite.true))

pub loop-k-preserved : goal.loop-k-preserved
loop-k-preserved c =
    let s = (goal.at.loop-k-preserved c).Start in
    let t = c.step-t in
    let q = sym c.read-cell.ensures ∙ c.in-Done.is in
    let x = c.as_real in
    (sum-on (sum_step s.args.averaged) (cells s) _ s.args.first s.args.count (alike s)
    c.loop-k.invariant
    c.loop-k-test.true (omega (arith, s.requires)) _ q x.result x.ensures
    t.result t.ensures (sum-takes s.args.averaged x.result) (sum-sums s.args.averaged)
    (sym c.is_finite.ensures ∙ c.if-not-is_finite.false))

pub returns-in-Stopped : goal.returns-in-Stopped
returns-in-Stopped c =
    let s = (goal.at.returns-in-Stopped c).Start in
    rw c.ended-in-Stopped.ensures
    (tallied-unread (sum_step s.args.averaged) (cells s) _ s.args.first s.args.count
    c.loop-k.invariant
    c.loop-k-test.true _
    (sym c.read-cell.ensures ∙ c.in-Stopped.is) (stopped _))

pub returns-in-WrongKind : goal.returns-in-WrongKind
returns-in-WrongKind c =
    let s = (goal.at.returns-in-WrongKind c).Start in
    rw c.ended-in-WrongKind.ensures
    (tallied-unread (sum_step s.args.averaged) (cells s) _ s.args.first s.args.count
    c.loop-k.invariant c.loop-k-test.true _
    (sym c.read-cell.ensures ∙ c.in-WrongKind.is) (wrong))

pub returns-then-averaged : goal.returns-then-averaged
returns-then-averaged c =
    let s = (goal.at.returns-then-averaged c).Start in
    rw (c.ended-then-averaged.ensures, c.reading.ensures, c.if-averaged.true)
    (tallied-ends (sum_step true) (cells s) _ s.args.first s.args.count
    (rw c.if-averaged.true at c.loop-k.invariant) c.loop-k-test.false
    c.loop-k.auto.k-end)

pub returns : goal.returns
returns c =
    let s = (goal.at.returns c).Start in
    rw (c.ended-2.ensures, c.reading-2.ensures, c.if-averaged.false)
    (tallied-ends (sum_step false) (cells s) _ s.args.first s.args.count
    (rw c.if-averaged.false at c.loop-k.invariant) c.loop-k-test.false
    c.loop-k.auto.k-end)
