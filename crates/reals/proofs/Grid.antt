-- No number of p digits lies between two neighbours q * 2 ^ k and (q + 1) * 2 ^ k whose significands are full; and of two
-- neighbours, which one is nearer to a number between them.
use mathlib.Core.Path.{◌≡◌, sym, ap, ◌∙◌}
use mathlib.Core.Logic.{◌⊎◌, inl, inr}
use mathlib.Core.Bool.{Bool, true, false, not}
use Prim.Native.Nat.{ℕ, suc, ◌+◌, ◌-◌, ◌*◌, ◌^◌, ◌≤◌, ◌<◌}
use native.Mathlib.Nat.{le_trans, le_of_lt, lt_of_lt_of_le, mul_assoc, mul-le-mul_right}
use native.Mathlib.Omega.{arith}
use lib.Dec.{T, leb, leb→le, nleb→lt}
use lib.Pow.{pow-add, pow_mono, shl_lt}
use lib.Ieee.Digits.{back}
use Rattle.reals.specs.Rounding.{distance}

-- ---- two numbers are in order, or in the other order
pub split : (a b : ℕ) → (a ≤ b) ⊎ (b < a)
split a b = go (leb a b) (leb→le a b) (nleb→lt a b)
  where
    go : (t : Bool) → (T t → a ≤ b) → (T (not t) → b < a) → (a ≤ b) ⊎ (b < a)
    go true x y = inl (x tt)
    go false x y = inr (y tt)

pub unless : (a b : ℕ) → (b < a → ⊥) → a ≤ b
unless a b never = elim (split a b) [ inl h ↦ h | inr h ↦ absurd (never h) ]

-- ---- no value lies between q * 2 ^ k and the next multiple of 2 ^ k
pub lower : (j k i : ℕ) → k ≤ i → j * 2 ^ i ≡ j * 2 ^ (i - k) * 2 ^ k
lower j k i h = ap (λ (x : ℕ). j * 2 ^ x) (sym (back i k h)) ∙ ap (λ (x : ℕ). j * x) (pow-add 2 (i - k) k) ∙ sym (mul_assoc j (2 ^ (i - k)) (2 ^ k))

pub gap : (p q k j i : ℕ) → 0 < p → (0 < k → 2 ^ (p - 1) ≤ q) → j < 2 ^ p → (j * 2 ^ i ≤ q * 2 ^ k) ⊎ (suc q * 2 ^ k ≤ j * 2 ^ i)
gap p q k j i P full few = go (split k i)
  where
    coarse : k ≤ i → (j * 2 ^ (i - k) ≤ q) ⊎ (q < j * 2 ^ (i - k)) → (j * 2 ^ i ≤ q * 2 ^ k) ⊎ (suc q * 2 ^ k ≤ j * 2 ^ i)
    coarse h (inl x) = inl (rw (lower j k i h) (mul-le-mul_right (2 ^ k) x))
    coarse h (inr x) = inr (rw (lower j k i h) (mul-le-mul_right (2 ^ k) x))

    -- with i below k: j has fewer digits than q at the place k, and so is the smaller
    fine : i < k → j * 2 ^ i < q * 2 ^ k
    fine h =
        let most : j * 2 ^ i < 2 ^ (p + i) = shl_lt p i few in
        let least : 2 ^ (p - 1 + k) ≤ q * 2 ^ k = rw (pow-add 2 (p - 1) k) (mul-le-mul_right (2 ^ k) (full (some i k h))) in
        lt_of_lt_of_le most (le_trans (pow_mono {i = p + i} {j = p - 1 + k} (omega arith)) least)
      where
        some : (i k : ℕ) → i < k → 0 < k
        some i k h = omega arith

    go : (k ≤ i) ⊎ (i < k) → (j * 2 ^ i ≤ q * 2 ^ k) ⊎ (suc q * 2 ^ k ≤ j * 2 ^ i)
    go (inl h) = coarse h (split (j * 2 ^ (i - k)) q)
    go (inr h) = inl (le_of_lt (fine h))

-- ---- a lies r above x, and the next place is x + u: which of the two is nearer, and that no other y is as near
abbrev pub Outside : ℕ → ℕ → ℕ → Type 0
Outside x u y = (y ≤ x) ⊎ (x + u ≤ y)

pub down : (x u r a y : ℕ) → x + r ≡ a → r * 2 ≤ u → Outside x u y → distance x a ≤ distance y a
down x u r a y e h (inl l) = omega arith
down x u r a y e h (inr l) = omega arith

pub up : (x u r a y : ℕ) → x + r ≡ a → r < u → u ≤ r * 2 → Outside x u y → distance (x + u) a ≤ distance y a
up x u r a y e w h (inl l) = omega arith
up x u r a y e w h (inr l) = omega arith

pub down-only : (x u r a y : ℕ) → x + r ≡ a → r * 2 < u → Outside x u y → distance y a ≡ distance x a → y ≡ x
down-only x u r a y e h (inl l) t = omega arith
down-only x u r a y e h (inr l) t = omega arith

pub up-only : (x u r a y : ℕ) → x + r ≡ a → r < u → u < r * 2 → Outside x u y → distance y a ≡ distance (x + u) a → y ≡ x + u
up-only x u r a y e w h (inl l) t = omega arith
up-only x u r a y e w h (inr l) t = omega arith
