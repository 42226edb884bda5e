-- The library's choice between two neighbours, `nearest`, takes the nearer one, and the even one only where both are as near.
use mathlib.Core.Path.{◌≡◌, refl, sym, ap, subst⁻¹}
use mathlib.Core.Logic.{◌⊎◌, inl, inr}
use Prim.Native.Nat.compare
use Prim.Native.Nat.{ℕ, zero, suc, ◌+◌, ◌*◌, ◌%◌, ◌≤◌, ◌<◌, suc-le-suc, compare, Ordering}
use native.Mathlib.Nat.{le_of_eq, le_of_lt, suc-mul, zero-lt-suc}
use native.Mathlib.Omega.{arith}
use lib.Ieee.{nearest}
use Rattle.reals.specs.Rounding.{distance}
use Rattle.reals.proofs.Grid.{split, Outside, down, up, down-only, up-only}

-- ---- two numbers are in one of three orders, and `compare` names it
pub data Ordered (a b : ℕ) : Ordering → Type 0 where
  before : a < b → Ordered a b Ordering.lt
  level : a ≡ b → Ordered a b Ordering.eq
  after : b < a → Ordered a b Ordering.gt

raised : (a b : ℕ) (o : Ordering) → Ordered a b o → Ordered (suc a) (suc b) o
raised a b Ordering.lt (before h) = before (suc-le-suc h)
raised a b Ordering.eq (level e) = level (ap suc e)
raised a b Ordering.gt (after h) = after (suc-le-suc h)

pub ordered : (a b : ℕ) → Ordered a b (compare a b)
ordered zero zero = subst⁻¹ (Ordered 0 0) compare.zero-zero (level refl)
ordered zero (suc b) = subst⁻¹ (Ordered 0 (suc b)) (compare.zero-suc b) (before (zero-lt-suc b))
ordered (suc a) zero = subst⁻¹ (Ordered (suc a) 0) (compare.suc-zero a) (after (zero-lt-suc a))
ordered (suc a) (suc b) = subst⁻¹ (Ordered (suc a) (suc b)) (compare.suc-suc a b) (raised a b (compare a b) (ordered a b))

-- ---- a / u to the nearest whole number, by twice the remainder r: y stands for another candidate, not between the two neighbours
tied : (q : ℕ) → (q + q % 2 ≡ q) ⊎ (q + q % 2 ≡ suc q)
tied q = go (split (q % 2) 0)
  where
    go : (q % 2 ≤ 0) ⊎ (0 < q % 2) → (q + q % 2 ≡ q) ⊎ (q + q % 2 ≡ suc q)
    go (inl h) = inl (omega arith)
    go (inr h) = inr (omega arith)

module _ (q u r a y : ℕ) where
  pub closer : (o : Ordering) → Ordered (r * 2) u o → q * u + r ≡ a → r < u → Outside (q * u) u y → distance (nearest q o * u) a ≤ distance y a
  closer Ordering.lt (before c) e w s = down (q * u) u r a y e (le_of_lt c) s
  closer Ordering.gt (after c) e w s = rw (suc-mul q u) (up (q * u) u r a y e w (le_of_lt c) s)
  closer Ordering.eq (level c) e w s = go (tied q)
    where
      go : (q + q % 2 ≡ q) ⊎ (q + q % 2 ≡ suc q) → distance ((q + q % 2) * u) a ≤ distance y a
      go (inl t) = rw t (down (q * u) u r a y e (le_of_eq c) s)
      go (inr t) = rw (t, suc-mul q u) (up (q * u) u r a y e w (le_of_eq (sym c)) s)

  -- as near only at a tie, which is resolved to the even one
  pub alone : (o : Ordering) → Ordered (r * 2) u o → q * u + r ≡ a → r < u → Outside (q * u) u y → distance y a ≡ distance (nearest q o * u) a
      → (y ≡ nearest q o * u) ⊎ (nearest q o % 2 ≡ 0)
  alone Ordering.lt (before c) e w s t = inl (down-only (q * u) u r a y e c s t)
  alone Ordering.gt (after c) e w s t = inl (rw (suc-mul q u) (up-only (q * u) u r a y e w c s (rw (suc-mul q u) at t)))
  alone Ordering.eq (level c) e w s t = inr (even q)
    where
      even : (q : ℕ) → (q + q % 2) % 2 ≡ 0
      even q = omega arith
