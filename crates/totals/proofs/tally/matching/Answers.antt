-- `totals::tally::matching` meets its contract. The loop's invariant: the tally has taken the cells so far that match.
use mathlib.Core.Path.{sym, ◌∙◌}
use Prim.Native.Nat.{ℕ}
use native.Mathlib.Omega.{arith}
use Rattle.values.specs.declared.Outcome.{Outcome}
use Rattle.memory.specs.declared.Bank.TheVariants.{R}
use Rattle.memory.specs.Cells.{read_rule}
use Rattle.memory.proofs.Laws.{memory-laws}
use Rattle.totals.specs.declared.Step.TheVariants as S
use Rattle.totals.specs.private.Steps.{match_step}
use Rattle.totals.proofs.Middle.{stopped, wrong}
use Rattle.totals.proofs.tally.Reals.{Alike, begins-match, tallied-begin, tallied-ends, tallied-unread}
use Rattle.totals.proofs.tally.Reals.{of-reals, match-takes, match-sums, sum-on, sum-lost, choice-on, passed_on}
use Rattle.totals.proofs.tally.matching.Goals as goal
use Rattle.totals.proofs.tally.matching.Goals.{Start, then-not-counts+else-not-is_finite, else-not-counts}

abbrev cells : Start → ℕ → Outcome
cells c = read_rule c.args.image.now R

alike : (c : Start) → Alike (match_step c.args.counts c.args.o c.args.v) (cells c)
alike c = of-reals (match_step c.args.counts c.args.o c.args.v) (cells c) (λ j. memory-laws.read-kind c.args.image.now R j)

pub loop-k-init : goal.loop-k-init
loop-k-init c =
    let s = (goal.at.loop-k-init c).Start in
    rw c.begin-t.ensures
    (tallied-begin (match_step s.args.counts s.args.o s.args.v) (cells s) _ s.args.first s.args.count _
    (begins-match s.args.counts s.args.o s.args.v _ (cells s) s.args.first s.args.count))

pub returns-then-not-is_finite : goal.returns-then-not-is_finite
returns-then-not-is_finite c =
    let s = (goal.at.returns-then-not-is_finite c).Start in
    let q = sym c.read-cell.ensures
    ∙ c.in-Done.is in
    let x = c.as_real-x in
    let g = match-takes s.args.counts s.args.o s.args.v x.result _
    c.as_real-y.ensures
    c.compare.ensures in
    rw (c.ended.ensures, c.settled.ensures)
    (sum-lost (match_step s.args.counts s.args.o s.args.v) (cells s) _ s.args.first s.args.count (alike s)
    c.loop-k.invariant
    c.loop-k-test.true
    (omega (arith, s.requires.1)) _ q x.result x.ensures
    c.step-t.result c.step-t.ensures
    (g ∙ c.if-not-compare.false)
    (match-sums s.args.counts s.args.o s.args.v (c.if-not-counts.true))
    (sym c.is_finite.ensures ∙ c.if-not-is_finite.true))

pub loop-k-preserved-then-not-compare : goal.loop-k-preserved-then-not-compare
loop-k-preserved-then-not-compare c =
    let s = (goal.at.loop-k-preserved-then-not-compare c).Start in
    let q = sym c.read-cell.ensures ∙ c.in-Done.is in
    let x = c.as_real-x in
    let g = match-takes s.args.counts s.args.o s.args.v x.result _
    c.as_real-y.ensures
    c.compare.ensures in
    (passed_on (match_step s.args.counts s.args.o s.args.v) (cells s) _ s.args.first s.args.count (alike s)
    c.loop-k.invariant
    c.loop-k-test.true (omega (arith, s.requires.1)) _ q x.result x.ensures
    (g ∙ c.if-not-compare.true))

pub loop-k-preserved : goal.loop-k-preserved
loop-k-preserved c =
    let s = (goal.at.loop-k-preserved c).Start in
    let step = match_step s.args.counts s.args.o s.args.v in
    let q = sym c.read-cell.ensures ∙ c.in-Done.is in
    let x = c.as_real-x in
    let g = match-takes s.args.counts s.args.o s.args.v x.result _ c.as_real-y.ensures c.compare.ensures ∙ c.if-not-compare.false in
    elim c.if-not-counts.branch [
      | then-not-counts+else-not-is_finite w ↦
          sum-on step (cells s) _ s.args.first s.args.count (alike s) c.loop-k.invariant c.loop-k-test.true (omega (arith, s.requires.1)) _ q
          x.result x.ensures c.step-t.result c.step-t.ensures g (match-sums s.args.counts s.args.o s.args.v w.if-not-counts.true)
          (sym w.is_finite.ensures ∙ w.if-not-is_finite.false)
      | else-not-counts w ↦
          choice-on step (cells s) _ s.args.first s.args.count (alike s) c.loop-k.invariant c.loop-k-test.true (omega (arith, s.requires.1)) _ q
          x.result x.ensures c.step-t.result c.step-t.ensures g (match-sums s.args.counts s.args.o s.args.v w.if-not-counts.false)
    ]

pub returns-in-Stopped : goal.returns-in-Stopped
returns-in-Stopped c =
    let s = (goal.at.returns-in-Stopped c).Start in
    rw c.ended-in-Stopped.ensures
    (tallied-unread (match_step s.args.counts s.args.o s.args.v) (cells s) _ s.args.first s.args.count
    c.loop-k.invariant c.loop-k-test.true _
    (sym c.read-cell.ensures ∙ c.in-Stopped.is) (stopped _))

pub returns-in-WrongKind : goal.returns-in-WrongKind
returns-in-WrongKind c =
    let s = (goal.at.returns-in-WrongKind c).Start in
    rw c.ended-in-WrongKind.ensures
    (tallied-unread (match_step s.args.counts s.args.o s.args.v) (cells s) _ s.args.first s.args.count
    c.loop-k.invariant c.loop-k-test.true _
    (sym c.read-cell.ensures ∙ c.in-WrongKind.is) (wrong))

pub returns-then-counts : goal.returns-then-counts
returns-then-counts c =
    let s = (goal.at.returns-then-counts c).Start in
    rw (c.ended-then-counts.ensures, c.reading.ensures, c.if-counts.true)
    (tallied-ends (S.CountIf s.args.o s.args.v) (cells s) _ s.args.first s.args.count
    (rw c.if-counts.true at c.loop-k.invariant) c.loop-k-test.false
    c.loop-k.auto.k-end)

pub returns : goal.returns
returns c =
    let s = (goal.at.returns c).Start in
    rw (c.ended-2.ensures, c.reading-2.ensures, c.if-counts.false)
    (tallied-ends (S.AddIf s.args.o s.args.v) (cells s) _ s.args.first s.args.count
    (rw c.if-counts.false at c.loop-k.invariant) c.loop-k-test.false
    c.loop-k.auto.k-end)
