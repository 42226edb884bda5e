-- A pattern below its sign: the place of its last digit, its digits, and the size that they make.
use mathlib.Core.Path.{◌≡◌, refl, sym, ap, ◌∙◌}
use mathlib.Core.Logic.{◌⊎◌, inl, inr}
use mathlib.Core.Bool.{Bool, true, false, cond}
use Prim.Native.Nat.{ℕ, ◌+◌, ◌-◌, ◌*◌, ◌/◌, ◌%◌, ◌^◌, ◌≤◌, ◌<◌}
use native.Mathlib.Nat.{le_trans, lt_of_lt_of_le, mul-pos, mul-le-mul_right, mul-lt-mul_of_pos_right}
use native.Mathlib.Omega.{arith}
use lib.Dec.{eqb}
use lib.Pow.{pow_pos, pow_mono, pow-add, shl_lt}
use borrow.Author.Tests.{eqb-true, eqb-false}
use Rattle.reals.specs.Laws.{pattern_units}
use Rattle.reals.proofs.Grid.{split}

abbrev pub place : ℕ → ℕ
place a = a / 2 ^ 23 - 1

abbrev pub digits : ℕ → ℕ
digits a = a - place a * 2 ^ 23

pub few : (a : ℕ) → digits a < 2 ^ 24
few a = omega arith

pub some : (a : ℕ) → 0 < a → 0 < digits a
some a h = omega arith

-- ---- a size is the digits at their place
pub in_place : (p a : ℕ) → p % 2 ^ 31 ≡ a → pattern_units p ≡ digits a * 2 ^ place a
in_place p a e = go (eqb (p % 2 ^ 31 / 2 ^ 23) 0) refl ∙ ap (λ (z : ℕ). digits z * 2 ^ place z) e
  where
    normal : (p : ℕ) → (p % 2 ^ 31 / 2 ^ 23 ≡ 0 → ⊥) → 2 ^ 23 + p % 2 ^ 23 ≡ digits (p % 2 ^ 31)
    normal p h = omega arith

    subnormal : (p : ℕ) → p % 2 ^ 31 / 2 ^ 23 ≡ 0 → p % 2 ^ 23 ≡ digits (p % 2 ^ 31) * 2 ^ place (p % 2 ^ 31)
    subnormal p h = rw h (omega arith)

    go : (t : Bool) → eqb (p % 2 ^ 31 / 2 ^ 23) 0 ≡ t
        → cond t (p % 2 ^ 23) ((2 ^ 23 + p % 2 ^ 23) * 2 ^ place (p % 2 ^ 31)) ≡ digits (p % 2 ^ 31) * 2 ^ place (p % 2 ^ 31)
    go true e = subnormal p (eqb-true (p % 2 ^ 31 / 2 ^ 23) 0 e)
    go false e = ap (λ (z : ℕ). z * 2 ^ place (p % 2 ^ 31)) (normal p (eqb-false (p % 2 ^ 31 / 2 ^ 23) 0 e))

pub units-pos : (p : ℕ) → 0 < p % 2 ^ 31 → 0 < pattern_units p
units-pos p h = rw (in_place p (p % 2 ^ 31) refl) (mul-pos (some (p % 2 ^ 31) h) (pow_pos (place (p % 2 ^ 31))))

-- so the sign does not count
pub same_units : (p q : ℕ) → p % 2 ^ 31 ≡ q % 2 ^ 31 → pattern_units p ≡ pattern_units q
same_units p q e = in_place p (q % 2 ^ 31) e ∙ sym (in_place q (q % 2 ^ 31) refl)

-- ---- sizes are in the order of their patterns: at one place by their digits; at a higher place there are 24 of them
sizes-rise : (a b : ℕ) → a < b → digits a * 2 ^ place a < digits b * 2 ^ place b
sizes-rise a b h = go (split (place b) (place a))
  where
    at_one : (i j m n : ℕ) → i ≡ j → m < n → m * 2 ^ i < n * 2 ^ j
    at_one i j m n e l = rw (← e) (mul-lt-mul_of_pos_right l (pow_pos i))

    alike : (a b : ℕ) → a < b → place b ≤ place a → place a ≡ place b
    alike a b h l = omega arith

    fewer : (a b : ℕ) → a < b → place b ≤ place a → digits a < digits b
    fewer a b h l = omega arith

    full : (a b : ℕ) → place a < place b → 2 ^ 23 ≤ digits b
    full a b l = omega arith

    above : (a b : ℕ) → place a < place b → 24 + place a ≤ 23 + place b
    above a b l = omega arith

    go : (place b ≤ place a) ⊎ (place a < place b) → digits a * 2 ^ place a < digits b * 2 ^ place b
    go (inl l) = at_one (place a) (place b) (digits a) (digits b) (alike a b h l) (fewer a b h l)
    go (inr l) =
        lt_of_lt_of_le (shl_lt 24 (place a) (few a))
        (le_trans (pow_mono (above a b l)) (rw (pow-add 2 23 (place b)) (mul-le-mul_right (2 ^ place b) (full a b l))))

pub units-rise : (p q : ℕ) → p % 2 ^ 31 < q % 2 ^ 31 → pattern_units p < pattern_units q
units-rise p q h = rw (in_place p (p % 2 ^ 31) refl, in_place q (q % 2 ^ 31) refl) (sizes-rise (p % 2 ^ 31) (q % 2 ^ 31) h)
