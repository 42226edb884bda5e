-- Tests that hold, taken apart: of two, and of every number below a bound. Assumes nothing.
use mathlib.Core.Path.{◌≡◌, refl, sym, subst}
use mathlib.Core.Bool.{Bool, true, false, ◌&&◌}
use Prim.Native.Nat.{ℕ, zero, suc, ◌<◌}
use native.Mathlib.Decide.{dec_lt}
use native.Mathlib.Omega.{arith}
use lib.Dec.{T}

pub false-true : {A : Type 0} → false ≡ true → A
false-true e = absurd (subst T (sym e) tt)

pub both : (a b : Bool) → (a && b) ≡ true → (a ≡ true) × (b ≡ true)
both true b e = (refl, e)
both false b e = false-true e

-- ---- every number below a bound passes a test
abbrev pub every_below : (ℕ → Bool) → ℕ → Bool
every_below f zero = true
every_below f (suc n) = f n && every_below f n

pub at_each : (f : ℕ → Bool) (n : ℕ) → every_below f n ≡ true → (k : ℕ) → k < n → f k ≡ true
at_each f zero t k h = absurd (omega arith)
at_each f (suc n) t k h =
    let b = both (f n) (every_below f n) t in
    by (dec_lt k n) b.0 (λ l. at_each f n b.1 k l)
  where
    by : Dec (k < n) → f n ≡ true → (k < n → f k ≡ true) → f k ≡ true
    by (yes l) last before = before l
    by (no l) last before = subst (λ (m : ℕ). f m ≡ true) (omega arith) last
