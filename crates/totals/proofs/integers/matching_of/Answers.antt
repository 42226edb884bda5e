-- `totals::integers::matching_of` meets its contract. The loop's invariant: the count or sum so far is an integer of 32 bits.
use mathlib.Core.Path.{◌≡◌, refl, sym, ap, ◌∙◌}
use mathlib.Core.Bool.{Bool, true, false}
use Prim.Native.Nat.{◌+◌, ◌*◌, ◌≤◌}
use native.Mathlib.Omega.{arith}
use lib.IntN.{ℤ, pos, nat_abs, ◌+ℤ◌}
use borrow.Author.Rules.{rules}
use mir.Syntax.{w32, w64}
use mir.Val.{SFits, to_z, of_z}
use mir.ValLaws.{to_z-of_z}
use Rattle.values.specs.declared.Kind.TheVariants as K
use Rattle.values.specs.declared.Value.{Value}
use Rattle.values.specs.declared.Value.TheVariants.{Int}
use Rattle.values.specs.declared.CompareOp.{CompareOp}
use Rattle.values.specs.declared.Outcome.TheVariants.{Done}
use Rattle.values.specs.Integers.{in_range}
use Rattle.values.proofs.Ranges.{range-sfits, sfits-range}
use Rattle.values.proofs.integers.Results.{wide}
use Rattle.memory.specs.Cells.{read_rule}
use Rattle.operators.specs.Operators.{compare_rule}
use Rattle.totals.specs.private.Steps.{match_step, run_over}
use Rattle.totals.specs.declared.integers.Bounds.{Bounds}
use Rattle.totals.specs.private.Integers.{taken_of, passes_in, Bounded}
use Rattle.totals.proofs.Laws.{total-laws}
use Rattle.totals.proofs.Middle.{middle-begin}
use Rattle.totals.proofs.integers.Whole.{Held, all_read, none-held, held-ends}
use Rattle.totals.proofs.integers.Whole.{match-begins, match-leaves, match-stays, match-passes, wide-sum}
use Rattle.totals.proofs.integers.Whole.{all-narrow, narrow-taken, narrow-sum, narrow-range}
use Rattle.totals.proofs.integers.matching_of.Goals as goal
use Rattle.totals.proofs.integers.matching_of.Goals.{After-taken_of, After-whole_at-z}
use Rattle.totals.proofs.integers.matching_of.Goals.{then-passes+then-wide+else-not-in_range, then-passes+else-wide, else-passes}

-- ---- a cell that was read

cell-read : (c : After-whole_at-z) → read_rule c.args.image.now c.args.cells.bank (c.args.cells.first + c.loop-k.k) ≡ Done (Int c.whole_at-z.result)
cell-read c =
    all_read c.args.image.now c.args.cells.bank c.args.cells.first c.args.cells.count c.args.cells.good c.args.cells.whole (rw c.requires at (sym c.are_in.ensures ∙ c.if-not-are_in.false))
    c.loop-k.k c.loop-k-test.true
    ∙ ap (λ (z : ℤ). Done (Int z)) (sym (rw c.requires at c.whole_at-z.ensures))

cell-narrow : (c : After-whole_at-z) → c.is_wide-wide.result ≡ false → nat_abs c.whole_at-z.result ≤ 65536
cell-narrow c w =
    rw (c.whole_at-z.ensures, c.requires)
    (all-narrow c.args.image.now c.args.cells.bank c.args.cells.first c.args.cells.count c.args.cells.good
    (λ j. omega (arith, c.shared_slice_known-1.given j)) (rw c.requires at (sym c.is_wide-wide.ensures ∙ w))
    (rw c.requires at (sym c.are_in.ensures ∙ c.if-not-are_in.false)) c.loop-k.k c.loop-k-test.true)

-- z passes the bounds or not
compared : (bounds : Bounds) (o : CompareOp) (v : Value) {r t : Bool} (z : ℤ) → SFits w32 z
    → r ≡ passes_in bounds.least bounds.greatest bounds.outside (to_z w32 (of_z w32 z)) → r ≡ t
    → Bounded bounds.least bounds.greatest bounds.outside o v → compare_rule o (Int z) v ≡ t
compared bounds o v z F p e b =
    sym (b z (sfits-range z F)) ∙ ap (passes_in bounds.least bounds.greatest bounds.outside) (sym (to_z-of_z w32 z F)) ∙ sym p ∙ e

-- ---- it is taken

taken : (d : After-taken_of) → d.taken_of.result ≡ taken_of d.args.counts d.whole_at-z.result
taken d =
    let F : SFits w32 d.whole_at-z.result = search rules in
    d.taken_of.ensures ∙ ap (taken_of d.args.counts) (to_z-of_z w32 d.whole_at-z.result F)

-- what is taken of an integer of 32 bits is one
taken-fits : (t : Bool) (z : ℤ) → SFits w32 z → SFits w32 (taken_of t z)
taken-fits true z F = record { sfits = omega arith }
taken-fits false z F = F

-- a cell that passes adds y
module _ (t : After-whole_at-z) (y : ℤ) (e : y ≡ taken_of t.args.counts t.whole_at-z.result) where
  -- the count or sum with it
  abbrev next : ℤ
  next = to_z w64 (of_z w64 (to_z w64 t.loop-k.a-bits +ℤ wide y))

  y-fits : SFits w32 y
  y-fits = let G : SFits w32 t.whole_at-z.result = search rules in rw e (taken-fits t.args.counts t.whole_at-z.result G)

  -- of a narrow bank
  narrow : t.is_wide-wide.result ≡ false → nat_abs next ≤ (t.loop-k.k + 1) * 65536
  narrow w =
      let l : nat_abs y ≤ 65536 = rw e (narrow-taken t.args.counts t.whole_at-z.result (cell-narrow t w)) in
      narrow-sum (to_z w64 t.loop-k.a-bits) y t.loop-k.k (range-sfits _ t.loop-k.invariant.0) y-fits (t.loop-k.invariant.1 w) l

  small : t.is_wide-wide.result ≡ false → in_range next ≡ true
  small w =
      let h = total-laws.range_small t.args.cells.bank t.args.cells.first t.args.cells.count t.args.cells.good in
      narrow-range next (omega (arith, narrow w, h.1, t.loop-k-test.true))

  -- if that stays within 32 bits
  on : in_range next ≡ true → (o : CompareOp) (v : Value) → Bounded t.args.bounds.least t.args.bounds.greatest t.args.bounds.outside o v
      → compare_rule o (Int t.whole_at-z.result) v ≡ true
      → Held (match_step t.args.counts o v) (read_rule t.args.image.now t.args.cells.bank)
      (run_over (match_step t.args.counts o v) K.Int (read_rule t.args.image.now t.args.cells.bank) t.args.cells.first t.args.cells.count)
      t.args.cells.first t.args.cells.count next (t.loop-k.k + 1)
  on f o v b p =
      let a = t.args in
      match-stays a.counts o v (read_rule a.image.now a.cells.bank) _ a.cells.first a.cells.count (t.loop-k.invariant.2 o v b) t.loop-k.invariant.0
      t.loop-k-test.true t.whole_at-z.result (cell-read t) p y y-fits e f

pub returns-then-not-are_in : goal.returns-then-not-are_in
returns-then-not-are_in c o v b =
    let a = c.args in
    c.no_cells.ensures
    ∙ none-held a.image.now a.cells.bank a.cells.first a.cells.count c.args.cells.good
    (rw c.requires at (sym c.are_in.ensures ∙ c.if-not-are_in.true)) (match_step a.counts o v) (Int (pos 0)) _
    (match-begins a.counts o v (read_rule a.image.now a.cells.bank) a.cells.first a.cells.count)

pub loop-k-init : goal.loop-k-init
loop-k-init c =
    let a = c.args in (
      refl,
      λ w. omega arith,
      λ o v b. middle-begin (read_rule a.image.now a.cells.bank) _ Done _ a.cells.first a.cells.count (Int (pos 0))
          (match-begins a.counts o v (read_rule a.image.now a.cells.bank) a.cells.first a.cells.count),
    )

pub overflow_add-a : goal.overflow_add-a
overflow_add-a c =
    let F : SFits w32 c.taken_of.result = search rules in
    wide-sum (to_z w64 c.loop-k.a-bits) c.taken_of.result (range-sfits _ c.loop-k.invariant.0) F

pub returns-then-not-in_range : goal.returns-then-not-in_range
returns-then-not-in_range c o v b =
    let a = c.args in
    let g = goal.at.returns-then-not-in_range c in
    let F : SFits w32 c.taken_of.result = search rules in
    let G : SFits w32 c.whole_at-z.result = search rules in
    c.ended.ensures
    ∙ match-leaves a.counts o v (read_rule a.image.now a.cells.bank) _ a.cells.first a.cells.count (c.loop-k.invariant.2 o v b) c.loop-k.invariant.0 c.loop-k-test.true
    c.whole_at-z.result (cell-read g.After-whole_at-z)
    (compared a.bounds o v c.whole_at-z.result G c.passes.ensures c.if-passes.true b) c.taken_of.result F (taken g.After-taken_of)
    (sym c.in_range.ensures ∙ c.if-not-in_range.true)

pub loop-k-preserved : goal.loop-k-preserved
loop-k-preserved c =
    let a = c.args in
    let t = (goal.at.loop-k-preserved c).After-whole_at-z in
    let z = c.whole_at-z.result in
    let G : SFits w32 z = search rules in
    elim c.if-passes.branch [
      | then-passes+then-wide+else-not-in_range w ↦
          let y = w.taken_of.result in
          let e : y ≡ taken_of a.counts z = w.taken_of.ensures ∙ ap (taken_of a.counts) (to_z-of_z w32 z G) in
          let f = sym w.in_range.ensures ∙ w.if-not-in_range.false in
          rw w.a-is (f, narrow t y e, λ o v b. on t y e f o v b (compared a.bounds o v z G c.passes.ensures w.if-passes.true b))
      | then-passes+else-wide w ↦
          let y = w.taken_of.result in
          let e : y ≡ taken_of a.counts z = w.taken_of.ensures ∙ ap (taken_of a.counts) (to_z-of_z w32 z G) in
          let f = small t y e w.if-wide.false in
          rw w.a-is (f, narrow t y e, λ o v b. on t y e f o v b (compared a.bounds o v z G c.passes.ensures w.if-passes.true b))
      | else-passes w ↦
          rw w.a-is (
            c.loop-k.invariant.0,
            λ n. let h = c.loop-k.invariant.1 n in omega (arith, h),
            λ o v b. match-passes a.counts o v (read_rule a.image.now a.cells.bank) _ a.cells.first a.cells.count (c.loop-k.invariant.2 o v b)
                c.loop-k.invariant.0 c.loop-k-test.true z (cell-read t) (compared a.bounds o v z G c.passes.ensures w.if-passes.false b),
          )
    ]

pub returns : goal.returns
returns c o v b =
    let a = c.args in
    c.ended-2.ensures
    ∙ ap (λ (z : ℤ). record { result = Done (Int z); cells = a.cells.count }) (to_z-of_z w32 _ (range-sfits _ c.loop-k.invariant.0))
    ∙ held-ends (match_step a.counts o v) (read_rule a.image.now a.cells.bank) _ a.cells.first a.cells.count
    (c.loop-k.invariant.2 o v b) c.loop-k-test.false c.loop-k.auto.k-end
