-- What a bank holds of a value is a number of its cell's bytes; and no value has a NaN to hold. Assumes nothing.
use Rattle.std.specs.Prelude.{Option, Some, None, Ok, Err, ℤ, Result}
use mathlib.Core.Path.{◌≡◌}
use mathlib.Core.Bool.{Bool, true, false, not, cond}
use Prim.Native.Nat.{ℕ, ◌^◌, ◌<◌}
use native.Mathlib.Omega.{arith}
use lib.Dec.{T}
use lib.Ieee.{Float, binary32, is_nan, fits, to_bits}
use lib.Ieee.Bits.{to_bits-lt}
use lib.Ieee.Fits.{of_int-fits}
use Rattle.reals.specs.Rounding.{Fraction, Rounds, near, over}
use Rattle.reals.proofs.Laws.{real-laws}
use Rattle.values.specs.declared.Value.{Value}
use Rattle.values.specs.declared.Value.TheVariants.{Int, Real}
use Rattle.values.specs.declared.Fault.{Fault}
use Rattle.values.specs.declared.Fault.TheVariants.{OutOfRange}
use Rattle.values.specs.Patterns.{low_bits}
use Rattle.values.proofs.patterns.Exponents.{finite_number}
use Rattle.values.proofs.patterns.Readings.{low-lt}
use Rattle.operators.specs.Laws.{Proper, int, real}
use Rattle.operators.specs.Operators.{as_real, truth_rule}
use Rattle.memory.specs.declared.Bank.{Bank}
use Rattle.memory.specs.declared.Bank.TheVariants.{X, C, «V», N, D, R}
use Rattle.memory.specs.Store.{bool_pattern, low_cut, integer_of, encode_finite_cell, is_finite, encode_cell}
use Rattle.memory.specs.Laws.{Bits, is_x, is_c, modulus, Holdable}

-- ---- no NaN
rounded-number : (q : Fraction) (x : Float) → Rounds q x → T (not (is_nan x))
unfolding is_nan
rounded-number q x (near l s n c) = finite_number x s.real
rounded-number q x (over l e) = rw e tt

pub number : (v : Value) → is_finite v ≡ true → T (not (is_nan (as_real v)))
number (Int z) f = rounded-number _ _ (real-laws.promote z)
number (Real x) f = finite_number x (rw f tt)

-- ---- a pattern fits its cell
no-fault : (f : Fault) (p : ℕ) → Err f ≡ Ok p → ⊥
no-fault f p e = let z : ◌≡◌ {A = ℕ} 0 1 = cc in omega arith

-- a value that has a pattern is finite
pub held : (b : Bank) (v : Value) (p : ℕ) → encode_cell b v ≡ Ok p → encode_finite_cell b v ≡ Ok p
held b v p e = by (is_finite v) e
  where
    by : (t : Bool) → cond t (encode_finite_cell b v) (Err OutOfRange) ≡ Ok p → encode_finite_cell b v ≡ Ok p
    by true f = f
    by false f = absurd (no-fault OutOfRange p f)

pattern-is : (n p : ℕ) → ◌≡◌ {A = Result ℕ Fault} (Ok n) (Ok p) → n ≡ p
pattern-is n p e = cc

bit_below : (t : Bool) (p : ℕ) → ◌≡◌ {A = Result ℕ Fault} (Ok (bool_pattern t)) (Ok p) → p < 2
bit_below true p e = omega (arith, pattern-is 1 p e)
bit_below false p e = omega (arith, pattern-is 0 p e)

low_below : (k : ℕ) (c : Option ℤ) (p : ℕ) → low_cut k c ≡ Ok p → p < 2 ^ k
low_below k (Some z) p e = omega (arith, pattern-is (low_bits k z) p e, low-lt k z)
low_below k None p e = absurd (no-fault OutOfRange p e)

real-fits : {v : Value} → Proper v → T (fits binary32 (as_real v))
real-fits (int z t) = of_int-fits binary32 z
real-fits (real x s) = s.fit

pub holdable : (b : Bank) (v : Value) (p : ℕ) → encode_cell b v ≡ Ok p → Holdable b p
holdable b v p e = record { bit = λ w. by w e }
  where
    by : {a : Bank} → Bits a → encode_cell a v ≡ Ok p → p < 2
    by is_x f = bit_below (truth_rule v) p (held X v p f)
    by is_c f = bit_below (truth_rule v) p (held C v p f)

pub below : (b : Bank) (v : Value) (p : ℕ) → Proper v → encode_cell b v ≡ Ok p → p < modulus b
below X v p h e = bit_below (truth_rule v) p (held X v p e)
below C v p h e = bit_below (truth_rule v) p (held C v p e)
below «V» v p h e = low_below 16 (integer_of v) p (held «V» v p e)
below N v p h e = low_below 16 (integer_of v) p (held N v p e)
below D v p h e = low_below 32 (integer_of v) p (held D v p e)
below R v p h e =
    omega (arith, pattern-is (to_bits binary32 (as_real v)) p (held R v p e), to_bits-lt binary32 (as_real v) (real-fits h))
