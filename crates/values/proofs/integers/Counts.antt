-- An exponent from 0 to 64, as the rules test it and as the code finds it; and the cast of an integer that is not negative.
use Rattle.std.proofs.Common.{◌≡◌, ℕ, ◌≤◌, Bool, true, false, cond, T, ℤ, pos, negsuc, nat_abs, Some, None, refl, true≢false, arith, w32, Fits, SFits, to_z, of_z, leb-true}
use mathlib.Core.Bool.{false≢true}
use lib.Dec.{leb-zero}
use lib.Signed.{non_neg, lt_z}
use mir.ValLaws.{to_z-of_z}
use Rattle.values.specs.Integers.{exponent}

pub not_negative : (z : ℤ) → lt_z z (pos 0) ≡ false → T (non_neg z)
not_negative (pos n) e = tt
not_negative (negsuc n) e = absurd (true≢false e)

-- what a cast from i32 to u32 asks
pub cast-natural : (z : ℤ) → SFits w32 z → T (non_neg z) → T (non_neg (to_z w32 (of_z w32 z))) × Fits w32 (nat_abs (to_z w32 (of_z w32 z)))
cast-natural (pos n) F t = rw (to_z-of_z w32 (pos n) F) (tt, record { fits = omega (arith, F.sfits) })
cast-natural (negsuc n) F t = absurd t

-- ---- an exponent
within : (n : ℤ) → exponent n ≡ true → (n ≡ pos (nat_abs n)) × (nat_abs n ≤ 64)
within (pos n) e = (refl, leb-true n 64 (rw (leb-zero n) at e))
within (negsuc n) e = absurd (false≢true e)

pub refused : (n : ℤ) → cond (exponent n) (Some (nat_abs n)) None ≡ None → exponent n ≡ false
refused n = by (exponent n)
  where
    by : (t : Bool) → cond t (Some (nat_abs n)) None ≡ None → t ≡ false
    by true e = cc
    by false e = refl

pub taken : (n : ℤ) (m : ℕ) → cond (exponent n) (Some (nat_abs n)) None ≡ Some m → n ≡ pos m
taken n m = by (exponent n) refl
  where
    by : (t : Bool) → exponent n ≡ t → cond t (Some (nat_abs n)) None ≡ Some m → n ≡ pos m
    by true h e = let w = (within n h).0 in cc
    by false h e = cc
