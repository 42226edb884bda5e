-- The value of a real literal (paper 02, request 4: "up to nine digits and an exponent of -20 to 20 .. The answer is still the nearest
-- single, ties to even"). It is the decimal n * 10 ^ scale, where n is the number that the digits make and the scale is the exponent
-- less the number of digits behind the dot.
use Rattle.std.specs.Prelude.{Bool, false, ◌&&◌, cond, ℕ, suc, ◌*◌, ◌^◌, ℤ, pos, negsuc, Float}
use Rattle.std.specs.Int.Signed.{le_z}
use Rattle.std.specs.Float.Ieee as Ieee
use Rattle.std.specs.Float.{binary32}
use Rattle.reals.specs.Rounding.{Fraction}

-- the decimal, in units of 2 ^ -149
abbrev pub scaled_decimal : ℕ → ℤ → Fraction
scaled_decimal n (pos e) = record { sign = false; num = n * 10 ^ e * 2 ^ 149; den = 1 }
scaled_decimal n (negsuc k) = record { sign = false; num = n * 2 ^ 149; den = 10 ^ suc k }

-- the decimal rounded once: `rounds` of LiteralLaws says that this is the nearest single
abbrev pub nearest_decimal : ℕ → ℤ → Float
nearest_decimal n (pos e) = Ieee.round binary32 false (n * 10 ^ e) 1
nearest_decimal n (negsuc k) = Ieee.round binary32 false n (10 ^ suc k)

-- the scales of literals, -28 to 20: an exponent of -20 to 20, less at most eight digits behind the dot
abbrev pub is_scale : ℤ → Bool
is_scale z = le_z (negsuc 27) z && le_z z (pos 20)

-- the 32 bits of the literal; at any other scale 0
abbrev pub literal_pattern : ℕ → ℤ → ℕ
literal_pattern n scale = cond (is_scale scale) (Ieee.to_bits binary32 (nearest_decimal n scale)) 0
