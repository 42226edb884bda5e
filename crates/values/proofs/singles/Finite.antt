-- Finite singles as the library tests them, and what each sort of result settles to.
use Rattle.std.proofs.Common.{◌≡◌, true, false, sym, refl}
use mathlib.Core.Bool.{false≢true}
use lib.Ieee.{Float, nan, inf, fin, binary32, of_bits, is_nan}
use lib.Ieee.Scale.{finite}
use Rattle.std.specs.Float.{float_is_finite, float_with_sign}
use Rattle.values.specs.declared.Value.TheVariants.{Real}
use Rattle.values.specs.declared.Fault.TheVariants.{Overflow, OutOfRange}
use Rattle.values.specs.declared.Outcome.TheVariants.{Done, Stopped}
use Rattle.values.specs.Singles.{zero_real, one_real, real_abs, settle}

-- ---- the patterns that the code writes
pub zero_pattern : of_bits binary32 0 ≡ zero_real
unfolding of_bits
zero_pattern = refl

pub one-pattern : of_bits binary32 0x3f80_0000 ≡ one_real
unfolding of_bits
one-pattern = refl

-- ---- the library's words
pub finite-is : (x : Float) → float_is_finite x ≡ finite x
unfolding float_is_finite
finite-is nan = refl
finite-is (inf s) = refl
finite-is (fin s m e) = refl

pub absolute-is : (x : Float) → float_with_sign false x ≡ real_abs x
unfolding float_with_sign
absolute-is nan = refl
absolute-is (inf s) = refl
absolute-is (fin s m e) = refl

-- ---- what a result settles to
pub settle-finite : (x : Float) → finite x ≡ true → Done (Real x) ≡ settle x
settle-finite nan h = absurd (false≢true h)
settle-finite (inf s) h = absurd (false≢true h)
settle-finite (fin s m e) h = refl

pub settle-nan : (x : Float) → is_nan x ≡ true → Stopped OutOfRange ≡ settle x
unfolding is_nan
settle-nan nan h = refl
settle-nan (inf s) h = absurd (false≢true h)
settle-nan (fin s m e) h = absurd (false≢true h)

pub settle-infinite : (x : Float) → finite x ≡ false → is_nan x ≡ false → Stopped Overflow ≡ settle x
unfolding is_nan
settle-infinite nan h i = absurd (false≢true (sym i))
settle-infinite (inf s) h i = refl
settle-infinite (fin s m e) h i = absurd (false≢true (sym h))
