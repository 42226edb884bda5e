-- `values::integers::binary_power` meets its contract: what a turn knows, of the digits taken and of each of its two multiplications.
use Rattle.std.proofs.Common.{◌≡◌, ℕ, suc, ◌+◌, ◌-◌, ◌<◌, Bool, true, false, ℤ, ◌*ℤ◌, sym, ◌∙◌, subst, ap₂, arith, w32, w64, SFits, to_z, of_z, rules}
use mir.ValLaws.{to_z-of_z}
use Rattle.values.specs.Integers.{in_range}
use Rattle.values.proofs.Ranges.{range-sfits, narrow, read-narrow}
use Rattle.values.proofs.integers.Squaring.{Reached, zeros-le, reached-first, reached-even, reached-odd, reached-all}
use Rattle.values.proofs.integers.Squaring.{square-outside, factor-outside}
use Rattle.values.proofs.integers.binary_power.Goals as goal

-- ---- what a turn knows: one digit more is left, and what each of the two multiplications gave
turn : (a : ℤ) (n l : ℕ) (z : ℤ) (k : ℕ) → SFits w32 a → 0 < l → Reached (to_z w32 (of_z w32 a)) n l z k → Reached a n (suc (l - 1)) z k
turn a n l z k F h R =
    let e : l ≡ suc (l - 1) = omega arith in
    subst (λ j. Reached a n j z k) e (rw (to_z-of_z w32 a F) at R)

tested : (v : ℤ) (r t : Bool) → SFits w64 v → r ≡ in_range (to_z w64 (of_z w64 v)) → r ≡ t → in_range v ≡ t
tested v r t F e h = sym (rw (to_z-of_z w64 v F) at e) ∙ h

factor-given : (a v w : ℤ) (i j : ℕ) → SFits w32 a → in_range v ≡ true → (w ≡ narrow v *ℤ to_z w32 (of_z w32 a)) × (j ≡ i + 1)
    → (w ≡ v *ℤ a) × (j ≡ i + 1)
factor-given a v w i j A t g = (g.0 ∙ ap₂ (λ x y. x *ℤ y) (read-narrow v (range-sfits v t)) (to_z-of_z w32 a A), g.1)

-- ---- the needs
pub loop-left-init : goal.loop-left-init
loop-left-init c =
    let a = c.args.a in
    let n = c.args.n in
    let F = c.ranges.n.fits in
    rw (to_z-of_z w32 a c.ranges.a)
    (reached-first a n c.requires.0 F c.requires.1 _ (omega (arith, zeros-le a n c.requires.0 F c.requires.1)) c.ranges.a)

pub returns-then-not-in_range : goal.returns-then-not-in_range
returns-then-not-in_range c =
    let l = c.loop-left in
    let R = turn c.args.a c.args.n l.left _ l.count c.ranges.a c.loop-left-test.true l.invariant in
    let v = c.times-square.result.value in
    let F : SFits w64 v = search rules in
    square-outside _ _ _ _ _ R c.requires.1 _ _ c.times-square.ensures (tested v _ false F c.in_range.ensures c.if-not-in_range.true)

pub returns-then-not-in_range-2 : goal.returns-then-not-in_range-2
returns-then-not-in_range-2 c =
    let l = c.loop-left in
    let R = turn c.args.a c.args.n l.left _ l.count c.ranges.a c.loop-left-test.true l.invariant in
    let v = c.times-square.result.value in
    let F : SFits w64 v = search rules in
    let within = tested v _ true F c.in_range.ensures c.if-not-in_range.false in
    let w = c.times-product.result.value in
    let G : SFits w64 w = search rules in
    let f = factor-given c.args.a v w c.times-square.result.count c.times-product.result.count c.ranges.a within c.times-product.ensures in
    factor-outside _ _ _ _ _ R c.requires.1 _ _ c.times-square.ensures _ _ f c.if-n-left-eq1.true
    (tested w _ false G c.in_range-then-n-left-eq1.ensures c.if-not-in_range-2.true)

pub loop-left-preserved-then-n-left-eq1 : goal.loop-left-preserved-then-n-left-eq1
loop-left-preserved-then-n-left-eq1 c =
    let l = c.loop-left in
    let R = turn c.args.a c.args.n l.left _ l.count c.ranges.a c.loop-left-test.true l.invariant in
    let v = c.times-square.result.value in
    let F : SFits w64 v = search rules in
    let within = tested v _ true F c.in_range.ensures c.if-not-in_range.false in
    let w = c.times-product.result.value in
    let G : SFits w64 w = search rules in
    let f = factor-given c.args.a v w c.times-square.result.count c.times-product.result.count c.ranges.a within c.times-product.ensures in
    let inside = tested w _ true G c.in_range-then-n-left-eq1.ensures c.if-not-in_range-2.false in
    rw (to_z-of_z w32 c.args.a c.ranges.a, read-narrow w (range-sfits w inside))
    (reached-odd _ _ _ _ _ R c.requires.1 _ _ c.times-square.ensures _ _ f c.if-n-left-eq1.true inside)

pub loop-left-preserved : goal.loop-left-preserved
loop-left-preserved c =
    let l = c.loop-left in
    let R = turn c.args.a c.args.n l.left _ l.count c.ranges.a c.loop-left-test.true l.invariant in
    let v = c.times-square.result.value in
    let F : SFits w64 v = search rules in
    let within = tested v _ true F c.in_range.ensures c.if-not-in_range.false in
    rw (to_z-of_z w32 c.args.a c.ranges.a, read-narrow v (range-sfits v within))
    (reached-even _ _ _ _ _ R c.requires.1 _ _ c.times-square.ensures c.if-n-left-eq1.false within)

pub returns : goal.returns
returns c =
    let a = c.args.a in
    let n = c.args.n in
    let l = c.loop-left in
    let e : l.left ≡ 0 = omega (arith, c.loop-left-test.false) in
    reached-all a n _ _ c.requires.1
    (subst (λ j. Reached a n j (to_z w32 l.p-bits) l.count) e (rw (to_z-of_z w32 a c.ranges.a) at l.invariant))
