-- A pattern of a single whose exponent is all ones is an infinity or a NaN; any other is a finite single. Assumes nothing.
use Rattle.std.proofs.Common.{◌≡◌, ℕ, ◌/◌, ◌%◌, ◌<◌, Bool, true, false, not, T, eqb, sym, refl, ◌∙◌, true≢false, arith, eq-eqb, ne_eqb}
use native.Mathlib.Decide.{ℕ_discrete}
use lib.Ieee.{Float, nan, inf, fin, binary32, of_bits, is_nan, nan_bits}
use lib.Ieee.Bits.{nan_bits_is, is_true}
use lib.Ieee.Scale.{finite}
use Rattle.reals.specs.Singles.{Single}
use Rattle.reals.proofs.Laws.{real-laws}

-- the exponent's field, as the code finds it
abbrev pub exponent : ℕ → ℕ
exponent n = n / 8388608 % 256

field : (n : ℕ) → n % 2147483648 / 8388608 ≡ exponent n
field n = omega arith

-- ---- all ones
not_finite : (n : ℕ) → exponent n ≡ 255 → finite (of_bits binary32 n) ≡ false
not_finite n h = by (finite (of_bits binary32 n)) (real-laws.decode_special n (field n ∙ h))
  where
    by : (t : Bool) → (T t → ⊥) → t ≡ false
    by true g = absurd (g tt)
    by false g = refl

-- ---- any other
other-single : (n : ℕ) → (exponent n ≡ 255 → ⊥) → Single (of_bits binary32 n)
other-single n h = let e : n % 2147483648 / 8388608 < 255 = omega arith in (real-laws.pattern n e).single

-- ---- so the test of the field is that of the single
pub test-is : (n : ℕ) → not (eqb (exponent n) 255) ≡ finite (of_bits binary32 n)
test-is n = by (ℕ_discrete (exponent n) 255)
  where
    by : Dec (exponent n ≡ 255) → not (eqb (exponent n) 255) ≡ finite (of_bits binary32 n)
    by (yes h) = rw (eq-eqb (exponent n) 255 h, not_finite n h)
    by (no h) = rw (ne_eqb (exponent n) 255 h, is_true (finite (of_bits binary32 n)) (other-single n h).real)

-- ---- what callers want of a finite one
pub finite-single : (n : ℕ) → finite (of_bits binary32 n) ≡ true → Single (of_bits binary32 n)
finite-single n e = other-single n (λ h. true≢false (sym e ∙ not_finite n h))

pub finite_number : (x : Float) → T (finite x) → T (not (is_nan x))
unfolding is_nan
finite_number nan h = absurd h
finite_number (inf s) h = absurd h
finite_number (fin s m e) h = tt

pub no_nan : (n : ℕ) → finite (of_bits binary32 n) ≡ true → T (not (nan_bits binary32 n))
no_nan n e = rw (nan_bits_is binary32 n) (finite_number (of_bits binary32 n) (rw e tt))
