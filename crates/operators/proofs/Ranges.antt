-- What is computed of each number of a range holds of a number that lies in it.
use mathlib.Core.Path.{◌≡◌, refl}
use mathlib.Core.Bool.{Bool, true, false}
use Prim.Native.Nat.{ℕ, zero, suc, ◌+◌, ◌≤◌, ◌<◌}
use native.Mathlib.Omega.{arith}
use lib.Dec.{ltb}
use borrow.Author.Tests.{ltb-true, ltb-false}

module _ (P : ℕ → Type 0) where
  -- P at each of n numbers from k on
  abbrev pub Range : ℕ → ℕ → Type 0
  Range k zero = Unit {0}
  Range k (suc n) = P k × Range (suc k) n

  pub in-range : (k n : ℕ) → Range k n → (i : ℕ) → k ≤ i → i < k + n → P i
  in-range k zero e i h l = absurd (omega arith)
  in-range k (suc n) e i h l = go (ltb k i) refl e.0 (λ m. in-range (suc k) n e.1 i m (omega arith))
    where
      go : (t : Bool) → ltb k i ≡ t → P k → (k < i → P i) → P i
      go true q p r = r (ltb-true k i q)
      go false q p r = let z : k ≡ i = omega (arith, ltb-false k i q) in rw z at p
