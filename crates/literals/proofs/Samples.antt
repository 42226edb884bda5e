-- Samples, by computing: literals as bit patterns.
use mathlib.Core.Path.{◌≡◌, refl}
use lib.IntN.{pos, negsuc}
use lib.Ieee as Ieee
use Rattle.literals.specs.Literals.{literal_pattern}

-- 1.25E-4, of paper 02
strength : literal_pattern 125 (negsuc 5) ≡ 0x3903_126f
unfolding Ieee.to_bits Ieee.round
strength = refl

-- 16777217E0 and 16777219E0 lie halfway between two singles
tie_down : literal_pattern 16777217 (pos 0) ≡ 0x4b80_0000
unfolding Ieee.to_bits Ieee.round
tie_down = refl

tie_up : literal_pattern 16777219 (pos 0) ≡ 0x4b80_0002
unfolding Ieee.to_bits Ieee.round
tie_up = refl

-- the ends: 0.00000001E-20, 999999999E20
smallest : literal_pattern 1 (negsuc 27) ≡ 0x10fd_87b6
unfolding Ieee.to_bits Ieee.round
smallest = refl

largest : literal_pattern 999999999 (pos 20) ≡ 0x6fa1_8f08
unfolding Ieee.to_bits Ieee.round
largest = refl
