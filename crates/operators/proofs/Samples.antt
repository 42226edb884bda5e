-- The rules compute: examples of papers 01 and 02 on values, by `refl`. A real is compared by its pattern.
use Rattle.std.specs.Prelude.{Ok, Err}
use mathlib.Core.Path.{◌≡◌, refl}
use mathlib.Core.Bool.{true, false}
use Prim.Native.Nat.{ℕ}
use lib.IntN.{pos, negsuc}
use lib.Ieee as Ieee
use lib.Ieee.{binary32}
use Rattle.reals.specs.declared.ArithOp.TheVariants.{Div, Rem}
use Rattle.values.specs.declared.Value.{Value}
use Rattle.values.specs.declared.Value.TheVariants.{Int, Real}
use Rattle.values.specs.declared.Fault.TheVariants.{DividedByZero, Overflow, OutOfRange, IndexError}
use Rattle.values.specs.declared.Outcome.{Outcome}
use Rattle.values.specs.declared.Outcome.TheVariants.{Done, Stopped, WrongKind}
use Rattle.values.specs.declared.BitOp.TheVariants.{And, Xor}
use Rattle.values.specs.declared.ShiftOp.TheVariants.{RightZero, Right}
use Rattle.values.specs.declared.CompareOp.TheVariants.{Eq}
use Rattle.values.specs.declared.ChoiceOp.TheVariants.{Max}
use Rattle.operators.specs.declared.BinaryOp.TheVariants.{Arith, Power, Shift, Compare, Bits, Choice}
use Rattle.operators.specs.declared.UnaryOp.TheVariants.{Neg, Complement, ToReal, Round, Frac}
use Rattle.operators.specs.Operators.{unary_rule, binary_rule, index_rule}

abbrev real : ℕ → Value
real b = Real (Ieee.of_bits binary32 b)

-- the pattern of a real result, and 0 for any other
abbrev pattern : Outcome → ℕ
pattern (Done (Real x)) = Ieee.to_bits binary32 x
pattern (Done (Int z)) = 0
pattern (Stopped f) = 0
pattern WrongKind = 0

-- (5 + 2) / 2.0 is 3.5
half : pattern (binary_rule (Arith Div) (Int (pos 7)) (real 0x4000_0000)) ≡ 0x4060_0000
unfolding Ieee.of_bits Ieee.to_bits Ieee.div Ieee.of_int Ieee.eq
half = refl

-- -7 / 2 is -3
toward_zero : binary_rule (Arith Div) (Int (negsuc 6)) (Int (pos 2)) ≡ Done (Int (negsuc 2))
toward_zero = refl

-- the least integer by -1
least : binary_rule (Arith Div) (Int (negsuc 2147483647)) (Int (negsuc 0)) ≡ Stopped Overflow
least = refl

-- 1 % -0.0
minus-zero : binary_rule (Arith Rem) (Int (pos 1)) (real 0x8000_0000) ≡ Stopped DividedByZero
unfolding Ieee.of_bits Ieee.eq
minus-zero = refl

-- (2**3)**2 is 64; the exponent 65 is 13
power : binary_rule Power (Int (pos 8)) (Int (pos 2)) ≡ Done (Int (pos 64))
power = refl

too_far : binary_rule Power (Int (pos 1)) (Int (pos 65)) ≡ Stopped OutOfRange
too_far = refl

-- 0xFFFFFFF8 >>> 28 is 15, and >> keeps the sign
zeros : binary_rule (Shift RightZero) (Int (negsuc 7)) (Int (pos 28)) ≡ Done (Int (pos 15))
zeros = refl

signs : binary_rule (Shift Right) (Int (negsuc 7)) (Int (pos 1)) ≡ Done (Int (negsuc 3))
signs = refl

-- 6 & (2 == 2) is 0
masks : binary_rule (Bits And) (Int (pos 6)) (Int (pos 1)) ≡ Done (Int (pos 0))
masks = refl

flips : unary_rule Complement (Int (pos 0)) ≡ Done (Int (negsuc 0))
flips = refl

wrong : binary_rule (Bits Xor) (Int (pos 6)) (real 0x3F80_0000) ≡ WrongKind
wrong = refl

-- TOREAL(16777217) is TOREAL(16777216)
ties : pattern (unary_rule ToReal (Int (pos 16777217))) ≡ 0x4B80_0000
unfolding Ieee.to_bits Ieee.of_int
ties = refl

-- 16777217 == 16777216.0 promotes first
promotes : binary_rule (Compare Eq) (Int (pos 16777217)) (real 0x4B80_0000) ≡ Done (Int (pos 1))
unfolding Ieee.of_bits Ieee.of_int Ieee.eq
promotes = refl

-- ROUND(-2.5) is -3, and of the single below 0.5 it is 0
away : unary_rule Round (real 0xC020_0000) ≡ Done (Int (negsuc 2))
unfolding Ieee.of_bits
away = refl

below_half : unary_rule Round (real 0x3EFF_FFFF) ≡ Done (Int (pos 0))
unfolding Ieee.of_bits
below_half = refl

-- MAX(-0.0, 0.0) is -0.0; FRAC(-3) is -0.0
first : pattern (binary_rule (Choice Max) (real 0x8000_0000) (real 0)) ≡ 0x8000_0000
unfolding Ieee.of_bits Ieee.to_bits Ieee.lt
first = refl

fraction : pattern (unary_rule Frac (Int (negsuc 2))) ≡ 0x8000_0000
unfolding Ieee.to_bits Ieee.of_int Ieee.rem Ieee.eq
fraction = refl

negates : unary_rule Neg (Int (negsuc 2147483647)) ≡ Stopped Overflow
negates = refl

-- D[-0.5] is 14, as is the single below -2147483648.0; D[-0.0] is D0; 2147483648.0 is 13, and 256.0 is past the last
below-zero : index_rule 256 (real 0xBF00_0000) ≡ Err IndexError
unfolding Ieee.of_bits Ieee.lt
below-zero = refl

far-below : index_rule 256 (real 0xCF00_0001) ≡ Err IndexError
unfolding Ieee.of_bits Ieee.lt
far-below = refl

minus-nothing : index_rule 256 (real 0x8000_0000) ≡ Ok 0
unfolding Ieee.of_bits Ieee.lt
minus-nothing = refl

far-above : index_rule 256 (real 0x4F00_0000) ≡ Err OutOfRange
unfolding Ieee.of_bits Ieee.lt
far-above = refl

past-last : index_rule 256 (real 0x4380_0000) ≡ Err IndexError
unfolding Ieee.of_bits Ieee.lt
past-last = refl

-- what no formula gives: minus infinity lies below zero, and the other infinity and a NaN outside 32 bits
minus-infinity : index_rule 256 (Real (Ieee.inf true)) ≡ Err IndexError
unfolding Ieee.lt
minus-infinity = refl

plus-infinity : index_rule 256 (Real (Ieee.inf false)) ≡ Err OutOfRange
unfolding Ieee.lt
plus-infinity = refl

not-a-number : index_rule 256 (Real Ieee.nan) ≡ Err OutOfRange
unfolding Ieee.lt
not-a-number = refl
