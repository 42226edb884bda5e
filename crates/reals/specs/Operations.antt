-- The five operations of paper 01 on singles ("Real: one IEEE operation; `%` as C's fmod"): the toolchain's, which the code
-- runs, and the exact result of each, which it must round.
use Rattle.std.specs.Prelude.{Bool, true, false, ◌&&◌, not, ℕ, zero, suc, ◌*◌, ◌%◌, ◌^◌, ℤ, pos, negsuc, nat_abs, ◌+ℤ◌, ◌-ℤ◌, Float}
use Rattle.std.specs.Float.Ieee as Ieee
use Rattle.std.specs.Float.{binary32}
use Rattle.std.specs.Float.Ieee.{unlike}
use Rattle.reals.specs.declared.ArithOp.{ArithOp}
use Rattle.reals.specs.declared.ArithOp.TheVariants.{Add, Sub, Mul, Div, Rem}
use Rattle.reals.specs.Singles.{negative, unit_count, signed_units}
use Rattle.reals.specs.Rounding.{Fraction}

abbrev pub ieee : ArithOp → Float → Float → Float
ieee Add x y = Ieee.add binary32 x y
ieee Sub x y = Ieee.sub binary32 x y
ieee Mul x y = Ieee.mul binary32 x y
ieee Div x y = Ieee.div binary32 x y
ieee Rem x y = Ieee.rem binary32 x y

-- the sign of a whole number, s where it is zero
abbrev pub sign_of : Bool → ℤ → Bool
sign_of s (pos zero) = s
sign_of s (pos (suc n)) = false
sign_of s (negsuc n) = true

-- z units; a zero has the sign s
abbrev pub whole_fraction : Bool → ℤ → Fraction
whole_fraction s z = record { sign = sign_of s z; num = nat_abs z; den = 1 }

-- The exact result. A sum of zero is -0.0 only where both terms are negative zeros. A product of units is a number of units times
-- 2 ^ -149; a quotient of units is a plain number, so 2 ^ 149 times as many units. The remainder has the dividend's sign.
abbrev pub exact_result : ArithOp → Float → Float → Fraction
exact_result Add x y = whole_fraction (negative x && negative y) (signed_units x +ℤ signed_units y)
exact_result Sub x y = whole_fraction (negative x && not (negative y)) (signed_units x -ℤ signed_units y)
exact_result Mul x y = record { sign = unlike (negative x) (negative y); num = unit_count x * unit_count y; den = 2 ^ 149 }
exact_result Div x y = record { sign = unlike (negative x) (negative y); num = unit_count x * 2 ^ 149; den = unit_count y }
exact_result Rem x y = record { sign = negative x; num = unit_count x % unit_count y; den = 1 }

-- the operations that a zero divisor stops
abbrev pub divides : ArithOp → Bool
divides Add = false
divides Sub = false
divides Mul = false
divides Div = true
divides Rem = true
