-- `totals::tally::matching_promoted` meets its contract. The loop's invariant: the count or sum so far is an integer of 32 bits.
--
use mathlib.Core.Path.{◌≡◌, refl, sym, ap, ◌∙◌}
use mathlib.Core.Bool.{Bool}
use Prim.Native.Nat.{◌+◌}
use lib.IntN.{ℤ, pos}
use lib.Ieee.{Float}
use borrow.Author.Rules.{rules}
use mir.Syntax.{w32}
use mir.Val.{SFits, to_z, of_z}
use mir.ValLaws.{to_z-of_z}
use Rattle.values.specs.declared.Value.TheVariants.{Int, Real}
use Rattle.values.specs.declared.Outcome.TheVariants.{Done}
use Rattle.values.specs.Convert.{promoted}
use Rattle.values.specs.Singles.{compare_real}
use Rattle.values.specs.declared.CompareOp.{CompareOp}
use Rattle.values.proofs.Ranges.{range-sfits}
use Rattle.memory.specs.Cells.{read_rule}
use Rattle.operators.specs.Operators.{compare_rule}
use Rattle.totals.specs.private.Steps.{match_step}
use Rattle.totals.specs.private.Integers.{taken_of}
use Rattle.totals.proofs.Middle.{middle-begin}
use Rattle.totals.proofs.integers.Whole.{all_read, none-held, held-ends}
use Rattle.totals.proofs.integers.Whole.{match-begins, match-leaves, match-stays, match-passes}
use Rattle.totals.proofs.tally.matching_promoted.Goals as goal
use Rattle.totals.proofs.tally.matching_promoted.Goals.{After-taken_of, After-whole_at-z}

-- ---- a cell that was read

cell-read : (c : After-whole_at-z) → read_rule c.args.image.now c.args.cells.bank (c.args.cells.first + c.loop-k.k) ≡ Done (Int c.whole_at-z.result)
cell-read c =
    all_read c.args.image.now c.args.cells.bank c.args.cells.first c.args.cells.count c.args.cells.good c.args.cells.whole (sym c.are_in.ensures ∙ c.if-not-are_in.false)
    c.loop-k.k c.loop-k-test.true
    ∙ ap (λ (z : ℤ). Done (Int z)) (sym c.whole_at-z.ensures)

compared : (o : CompareOp) (x : Float) {r t : Bool} {p : Float} (z : ℤ) → SFits w32 z → p ≡ promoted (to_z w32 (of_z w32 z)) → r ≡ compare_real o p x → r ≡ t
    → compare_rule o (Int z) (Real x) ≡ t
compared o x z F p h e = rw (p, to_z-of_z w32 z F) at (sym h ∙ e)

-- it is taken
taken : (d : After-taken_of) → d.taken_of.result ≡ taken_of d.args.counts d.whole_at-z.result
taken d =
    let F : SFits w32 d.whole_at-z.result = search rules in
    d.taken_of.ensures ∙ ap (taken_of d.args.counts) (to_z-of_z w32 d.whole_at-z.result F)

pub returns-then-not-are_in : goal.returns-then-not-are_in
returns-then-not-are_in c =
    let a = c.args in
    c.no_cells.ensures
    ∙ none-held a.image.now a.cells.bank a.cells.first a.cells.count c.args.cells.good (sym c.are_in.ensures ∙ c.if-not-are_in.true)
    (match_step a.counts a.o (Real a.x)) (Int (pos 0)) _
    (match-begins a.counts a.o (Real a.x) (read_rule a.image.now a.cells.bank) a.cells.first a.cells.count)

pub loop-k-init : goal.loop-k-init
loop-k-init c =
    let a = c.args in (
      refl,
      middle-begin (read_rule a.image.now a.cells.bank) _ Done _ a.cells.first a.cells.count (Int (pos 0))
          (match-begins a.counts a.o (Real a.x) (read_rule a.image.now a.cells.bank) a.cells.first a.cells.count),
    )

pub returns-then-not-in_range : goal.returns-then-not-in_range
returns-then-not-in_range c =
    let a = c.args in
    let g = goal.at.returns-then-not-in_range c in
    let F : SFits w32 c.taken_of.result = search rules in
    let G : SFits w32 c.whole_at-z.result = search rules in
    c.ended.ensures
    ∙ match-leaves a.counts a.o (Real a.x) (read_rule a.image.now a.cells.bank) _ a.cells.first a.cells.count c.loop-k.invariant.1 c.loop-k.invariant.0 c.loop-k-test.true
    c.whole_at-z.result (cell-read g.After-whole_at-z)
    (compared a.o a.x c.whole_at-z.result G c.promote.ensures c.compare.ensures c.if-not-compare.false) c.taken_of.result F (taken g.After-taken_of)
    (sym c.in_range.ensures ∙ c.if-not-in_range.true)

pub loop-k-preserved : goal.loop-k-preserved
loop-k-preserved c =
    let a = c.args in
    let g = goal.at.loop-k-preserved c in
    let F : SFits w32 c.taken_of.result = search rules in
    let G : SFits w32 c.whole_at-z.result = search rules in
    let e = sym c.in_range.ensures ∙ c.if-not-in_range.false in (
      e,
      match-stays a.counts a.o (Real a.x) (read_rule a.image.now a.cells.bank) _ a.cells.first a.cells.count c.loop-k.invariant.1 c.loop-k.invariant.0
          c.loop-k-test.true c.whole_at-z.result (cell-read g.After-whole_at-z)
          (compared a.o a.x c.whole_at-z.result G c.promote.ensures c.compare.ensures c.if-not-compare.false) c.taken_of.result F (taken g.After-taken_of) e,
    )

pub loop-k-preserved-then-not-compare : goal.loop-k-preserved-then-not-compare
loop-k-preserved-then-not-compare c =
    let a = c.args in
    let t = (goal.at.loop-k-preserved-then-not-compare c).After-whole_at-z in
    let G : SFits w32 c.whole_at-z.result = search rules in (
      c.loop-k.invariant.0,
      match-passes a.counts a.o (Real a.x) (read_rule a.image.now a.cells.bank) _ a.cells.first a.cells.count c.loop-k.invariant.1 c.loop-k.invariant.0
          c.loop-k-test.true c.whole_at-z.result (cell-read t)
          (compared a.o a.x c.whole_at-z.result G c.promote.ensures c.compare.ensures c.if-not-compare.true),
    )

pub returns : goal.returns
returns c =
    let a = c.args in
    c.ended-2.ensures
    ∙ ap (λ (z : ℤ). record { result = Done (Int z); cells = a.cells.count }) (to_z-of_z w32 _ (range-sfits _ c.loop-k.invariant.0))
    ∙ held-ends (match_step a.counts a.o (Real a.x)) (read_rule a.image.now a.cells.bank) _ a.cells.first a.cells.count
    c.loop-k.invariant.1 c.loop-k-test.false c.loop-k.auto.k-end
