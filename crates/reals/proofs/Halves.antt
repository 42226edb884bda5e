-- (2 * a + b) / (2 * b) is the whole number nearest to a / b, and the larger one of two as near.
use mathlib.Core.Path.{◌≡◌, sym, ap, ◌∙◌, subst}
use mathlib.Core.Logic.{◌⊎◌, inl, inr}
use Prim.Native.Nat.{ℕ, ◌+◌, ◌*◌, ◌/◌, ◌≤◌, ◌<◌}
use native.Mathlib.Nat.{le_trans, le_of_eq, le_antisymm, le_of_mul-le-mul_right, mul_left_comm, mul-pos, mul-le-mul_right, div-mul-le_self}
use native.Mathlib.Nat.{div-lt_iff_lt-mul, suc-mul, lt-suc_self, zero-lt-suc}
use native.Mathlib.Omega.{arith}
use Rattle.reals.specs.Rounding.{distance, ClosestWhole}
use Rattle.reals.proofs.Grid.{split}

-- ---- x is the multiple of b at most half a step above a, and less than half a step below; y is another multiple
data Place (x y b : ℕ) : Type 0 where
  under : y + b ≤ x → Place x y b
  same : y ≡ x → Place x y b
  above : x + b ≤ y → Place x y b

nearer : (a b x y : ℕ) → 2 * x ≤ 2 * a + b → 2 * a + b < 2 * x + 2 * b → Place x y b → distance x a ≤ distance y a
nearer a b x y l h (under p) = omega arith
nearer a b x y l h (same p) = omega arith
nearer a b x y l h (above p) = omega arith

larger : (a b x y : ℕ) → 2 * a + b < 2 * x + 2 * b → Place x y b → distance y a ≡ distance x a → y ≤ x
larger a b x y h (under p) e = omega arith
larger a b x y h (same p) e = omega arith
larger a b x y h (above p) e = omega arith

module _ (a b : ℕ) (B : 0 < b) where
  abbrev q : ℕ
  q = (2 * a + b) / (2 * b)

  low-side : 2 * (q * b) ≤ 2 * a + b
  low-side = le_trans (le_of_eq (mul_left_comm 2 q b)) (div-mul-le_self (2 * a + b) (2 * b))

  high-side : 2 * a + b < 2 * (q * b) + 2 * b
  high-side =
      subst (λ (x : ℕ). 2 * a + b < x) (suc-mul q (2 * b) ∙ ap (λ (x : ℕ). x + 2 * b) (mul_left_comm q 2 b))
      ((div-lt_iff_lt-mul (mul-pos (zero-lt-suc 1) B)).0 (lt-suc_self q))

  place : (o : ℕ) → Place (q * b) (o * b) b
  place o = go (split o q) (split q o)
    where
      go : (o ≤ q) ⊎ (q < o) → (q ≤ o) ⊎ (o < q) → Place (q * b) (o * b) b
      go (inr h) k = above (le_trans (le_of_eq (sym (suc-mul q b))) (mul-le-mul_right b h))
      go (inl h) (inr k) = under (le_trans (le_of_eq (sym (suc-mul o b))) (mul-le-mul_right b k))
      go (inl h) (inl k) = same (ap (λ (x : ℕ). x * b) (le_antisymm h k))

  pub halves : ClosestWhole a b ((2 * a + b) / (2 * b))
  halves = record {
    least = λ o. nearer a b (q * b) (o * b) low-side high-side (place o);
    away = λ o e. le_of_mul-le-mul_right (larger a b (q * b) (o * b) high-side (place o) e) B;
  }
