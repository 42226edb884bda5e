-- `totals::integers::sum_of` meets its contract. The loop's invariant: the sum so far is an integer of 32 bits.
use mathlib.Core.Path.{◌≡◌, refl, sym, ap, ◌∙◌}
use mathlib.Core.Bool.{true, false}
use Prim.Native.Nat.{◌+◌, ◌*◌, ◌≤◌}
use native.Mathlib.Omega.{arith}
use lib.IntN.{ℤ, pos, nat_abs, ◌+ℤ◌}
use borrow.Author.Rules.{rules}
use mir.Syntax.{w32}
use mir.Val.{SFits, to_z, of_z}
use mir.ValLaws.{to_z-of_z}
use Rattle.values.specs.declared.Kind.TheVariants as K
use Rattle.values.specs.declared.Value.TheVariants.{Int}
use Rattle.values.specs.declared.Outcome.TheVariants.{Done}
use Rattle.values.specs.Integers.{in_range}
use Rattle.values.proofs.Ranges.{range-sfits}
use Rattle.memory.specs.Cells.{read_rule}
use Rattle.totals.specs.declared.Step.TheVariants as S
use Rattle.totals.specs.private.Steps.{run_over}
use Rattle.totals.proofs.Laws.{total-laws}
use Rattle.totals.proofs.Middle.{middle-begin}
use Rattle.totals.proofs.integers.Whole.{Held, all_read, all-narrow, none-held, held-ends, stays}
use Rattle.totals.proofs.integers.Whole.{leaves, sum-begins, narrow-added, narrow-range}
use Rattle.totals.proofs.integers.sum_of.Goals as goal
use Rattle.totals.proofs.integers.sum_of.Goals.{After-whole_at}

cell-back : (c : After-whole_at) → to_z w32 (of_z w32 c.whole_at.result) ≡ c.whole_at.result
cell-back c = let F : SFits w32 c.whole_at.result = search rules in to_z-of_z w32 c.whole_at.result F

-- the sum with the cell
abbrev next : After-whole_at → ℤ
next c = to_z w32 c.loop-k.a-bits +ℤ c.whole_at.result

cell-read : (c : After-whole_at) → read_rule c.args.image.now c.args.cells.bank (c.args.cells.first + c.loop-k.k) ≡ Done (Int c.whole_at.result)
cell-read c =
    all_read c.args.image.now c.args.cells.bank c.args.cells.first c.args.cells.count c.args.cells.good c.args.cells.whole (rw c.requires at (sym c.are_in.ensures ∙ c.if-not-are_in.false))
    c.loop-k.k c.loop-k-test.true
    ∙ ap (λ (z : ℤ). Done (Int z)) (sym (rw c.requires at c.whole_at.ensures))

cell-narrow : (c : After-whole_at) → c.is_wide-wide.result ≡ false → nat_abs c.whole_at.result ≤ 65536
cell-narrow c w =
    rw (c.whole_at.ensures, c.requires)
    (all-narrow c.args.image.now c.args.cells.bank c.args.cells.first c.args.cells.count c.args.cells.good
    (λ j. omega (arith, c.shared_slice_known-1.given j)) (rw c.requires at (sym c.is_wide-wide.ensures ∙ w))
    (rw c.requires at (sym c.are_in.ensures ∙ c.if-not-are_in.false)) c.loop-k.k c.loop-k-test.true)

-- the sum so far with the cell, if that stays within 32 bits
on : (c : After-whole_at) → in_range (next c) ≡ true
    → Held S.Add (read_rule c.args.image.now c.args.cells.bank) (run_over S.Add K.Int (read_rule c.args.image.now c.args.cells.bank) c.args.cells.first c.args.cells.count)
    c.args.cells.first c.args.cells.count (next c) (c.loop-k.k + 1)
on c e =
    stays S.Add (read_rule c.args.image.now c.args.cells.bank) _ c.args.cells.first c.args.cells.count c.loop-k.invariant.2 c.loop-k-test.true
    c.whole_at.result (cell-read c) (next c) refl e

-- of a narrow bank
narrow : (c : After-whole_at) → c.is_wide-wide.result ≡ false → nat_abs (next c) ≤ (c.loop-k.k + 1) * 65536
narrow c w = narrow-added (to_z w32 c.loop-k.a-bits) c.whole_at.result c.loop-k.k (c.loop-k.invariant.1 w) (cell-narrow c w)

pub returns-then-not-are_in : goal.returns-then-not-are_in
returns-then-not-are_in c =
    c.no_cells.ensures
    ∙ none-held c.args.image.now c.args.cells.bank
    c.args.cells.first c.args.cells.count c.args.cells.good
    (rw c.requires at (sym c.are_in.ensures ∙ c.if-not-are_in.true)) S.Add (Int (pos 0)) _
    (sum-begins (read_rule c.args.image.now c.args.cells.bank)
    c.args.cells.first c.args.cells.count)

pub loop-k-init : goal.loop-k-init
loop-k-init c =
    let a = c.args in (
      refl,
      λ w. omega arith,
      middle-begin (read_rule a.image.now a.cells.bank) _ Done _ a.cells.first a.cells.count (Int (pos 0))
          (sum-begins (read_rule a.image.now a.cells.bank) a.cells.first a.cells.count),
    )

pub added-requires : goal.added-requires
added-requires c = λ w.
    let h = total-laws.range_small c.args.cells.bank c.args.cells.first c.args.cells.count c.args.cells.good in
    rw (cell-back c) (narrow-range (next c) (omega (arith, narrow c w, h.1, c.loop-k-test.true)))

pub returns-in-None : goal.returns-in-None
returns-in-None c =
    let t = (goal.at.returns-in-None c).After-whole_at in
    c.ended.ensures
    ∙ leaves S.Add (read_rule c.args.image.now c.args.cells.bank) _ c.args.cells.first c.args.cells.count c.loop-k.invariant.2 c.loop-k-test.true
    c.whole_at.result (cell-read t) (next t) refl (rw (cell-back t) at c.in-None.ensures)

pub loop-k-preserved : goal.loop-k-preserved
loop-k-preserved c =
    let t = (goal.at.loop-k-preserved c).After-whole_at in
    let h = rw (cell-back t) at c.in-Some.ensures in
    rw (h.0, to_z-of_z w32 (next t) (range-sfits (next t) h.1)) (h.1, λ w. narrow t w, on t h.1)

pub returns : goal.returns
returns c =
    let a = c.args in
    c.ended-2.ensures
    ∙ held-ends S.Add (read_rule a.image.now a.cells.bank) _ a.cells.first a.cells.count c.loop-k.invariant.2 c.loop-k-test.false
    c.loop-k.auto.k-end
