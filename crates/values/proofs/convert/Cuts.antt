-- Cuts of a single: its whole part, the cast to 64 bits that gives it, and what lies outside 32 bits.
use Rattle.std.proofs.Common.{◌≡◌, ℕ, zero, suc, ◌*◌, ◌/◌, ◌^◌, ◌<◌, ◌≤◌, Bool, true, false, T, ℤ, pos, negsuc, neg_ℤ, sym, refl, ap, ◌∙◌, le_trans, le_refl, lt_of_lt_of_le, le_of_suc-le-suc, mul_comm, div-lt_iff_lt-mul, le-div_iff_mul-le, arith, lit<, pow_pos, ltb-true, lt-ltb, None}
use mathlib.Core.Bool.{false≢true}
use native.Mathlib.Nat.{min-eq_left}
use native.Mathlib.Nat.{div-le_of_le-mul, div-div-eq-div-mul, mul-div-mul_right}
use lib.Pow.{pow-lt}
use lib.Ieee.{Float, nan, inf, fin, up, down, lt, le, eq, to_signed}
use lib.Ieee.Fits.{down_pos}
use lib.Ieee.Exact.{HasValue}
use lib.Ieee.Nearest.{div_same}
use Rattle.reals.specs.Singles.{unit_count, signed}
use Rattle.values.specs.Integers.{in_range}
use Rattle.values.specs.Convert.{cut, cut_by, truncated}
use Rattle.values.proofs.Ranges.{below-range, above-range}
use Rattle.values.proofs.convert.Limits.{limit, Fails, below-high, beyond, at_most, passes-high, passes-low}

-- ---- the whole part: 2 ^ 149 units are 1
whole-units : (s : Bool) (m : ℕ) (e : ℤ) → unit_count (fin s m e) / 2 ^ 149 ≡ m * up e / down e
whole-units s m e = div-div-eq-div-mul (m * up e * 2 ^ 149) (down e) (2 ^ 149) ∙ mul-div-mul_right (m * up e) (down e) (pow_pos 149)

-- ---- the cast to 64 bits, where its two tests pass
cast_is : (s : Bool) (m : ℕ) (e : ℤ) → le (limit true 63) (fin s m e) ≡ true → lt (fin s m e) (limit false 63) ≡ true
    → to_signed 63 (fin s m e) ≡ signed s (m * up e / down e)
unfolding to_signed
cast_is true m e a b =
    let h : m * up e / down e ≤ 2 ^ 63 = div-le_of_le-mul (down e) (rw (mul_comm (down e) (2 ^ 63)) (at_most 63 m e a)) in
    ap (λ (q : ℕ). neg_ℤ (pos q)) (min-eq_left h)
cast_is false m e a b =
    let h : m * up e / down e < 2 ^ 63 = (div-lt_iff_lt-mul (down_pos e)).1 (ltb-true _ _ (sym (below-high 63 m e false) ∙ b)) in
    ap pos (min-eq_left (le_of_suc-le-suc h))

pub truncated-is : (x : Float) → le (limit true 63) x ≡ true → lt x (limit false 63) ≡ true → cut (to_signed 63 x) ≡ truncated x
truncated-is nan a b = unfold le lt eq in absurd (false≢true a)
truncated-is (inf true) a b = unfold le lt eq in absurd (false≢true a)
truncated-is (inf false) a b = unfold lt in absurd (false≢true b)
truncated-is (fin s m e) a b = ap cut (cast_is s m e a b ∙ ap (signed s) (sym (whole-units s m e)))

-- the cast of y is made and gives z
pub record Cast (y : Float) (z : ℤ) : Type 0 where
  pub above : le (limit true 63) y ≡ true
  pub below : lt y (limit false 63) ≡ true
  pub is : to_signed 63 y ≡ z

pub cast : (y : Float) (s : Bool) (a d : ℕ) → 0 < d → a < 2 ^ 63 * d → HasValue y s a d → Cast y (signed s (a / d))
cast nan s a d D h v = absurd v
cast (inf t) s a d D h v = absurd v
cast (fin t m e) s a d D h v =
    let same : m * up e / down e ≡ a / d = div_same (m * up e) (down e) a d (down_pos e) D v.1 in
    let small : m * up e < 2 ^ 63 * down e = (div-lt_iff_lt-mul (down_pos e)).0 (rw same ((div-lt_iff_lt-mul D).1 h)) in
    let lo = passes-low 63 m e small t in
    let hi = passes-high 63 m e small t in
    record { above = lo; below = hi; is = cast_is t m e lo hi ∙ rw (v.0, same) }

-- what the cast asks
pub cast-asks : (y : Float) (z : ℤ) → Cast y z → T (le (limit true 63) y) × T (lt y (limit false 63))
cast-asks y z C = (rw C.above tt, rw C.below tt)

-- ---- outside
out_of_range : (s : Bool) (q : ℕ) → 2 ^ 31 < q → in_range (signed s q) ≡ false
out_of_range false q h = above-range (pos q) (lt-ltb 2147483647 q (omega arith))
out_of_range true zero h = absurd (omega arith)
out_of_range true (suc q) h = below-range (negsuc q) (lt-ltb 2147483647 q (omega arith))

-- any cut that gives no less than the whole part
pub outside : (f : ℕ → ℕ) → ((n : ℕ) → n / 2 ^ 149 ≤ f n) → (k : ℕ) → 31 < k → (x : Float) → Fails k x → None ≡ cut_by f x
outside f g k K nan t = refl
outside f g k K (inf s) t = refl
outside f g k K (fin s m e) t =
    let n = unit_count (fin s m e) in
    let w : 2 ^ k ≤ n / 2 ^ 149 = rw (whole-units s m e) ((le-div_iff_mul-le (down_pos e)).1 (beyond k m e s t)) in
    rw (out_of_range s (f n) (lt_of_lt_of_le (pow-lt K) (le_trans w (g n))))

pub truncated-outside : (x : Float) → Fails 63 x → None ≡ truncated x
truncated-outside x t = outside _ (λ n. le_refl (n / 2 ^ 149)) 63 (lit< tt) x t
