-- Samples, by computing: what the five operations and promotion give at the corners, as bit patterns.
use mathlib.Core.Path.{◌≡◌, refl}
use Prim.Native.Nat.{ℕ}
use lib.IntN.{pos}
use lib.Ieee as Ieee
use lib.Ieee.{Float, binary32}
use Rattle.reals.specs.declared.ArithOp.TheVariants.{Add, Sub, Mul, Div, Rem}
use Rattle.reals.specs.Operations.{ieee}

abbrev bits : Float → ℕ
bits x = Ieee.to_bits binary32 x

abbrev single : ℕ → Float
single b = Ieee.of_bits binary32 b

abbrev whole : ℕ → Float
whole n = Ieee.of_int binary32 (pos n)

-- 2 ^ 24 + 1 and 2 ^ 24 + 3 lie halfway between two singles: down to 2 ^ 24, up to 2 ^ 24 + 4
tie_down : bits (whole 16777217) ≡ 0x4b80_0000
unfolding Ieee.to_bits Ieee.of_int
tie_down = refl

tie_up : bits (whole 16777219) ≡ 0x4b80_0002
unfolding Ieee.to_bits Ieee.of_int
tie_up = refl

-- half the smallest single is halfway to zero; half of three of it is halfway from one to two of it
half-smallest : bits (ieee Div (single 1) (whole 2)) ≡ 0
unfolding Ieee.to_bits Ieee.div Ieee.of_bits Ieee.of_int
half-smallest = refl

half-three : bits (ieee Mul (single 3) (single 0x3f00_0000)) ≡ 2
unfolding Ieee.to_bits Ieee.mul Ieee.of_bits
half-three = refl

-- 0.1
tenth : bits (ieee Div (whole 1) (whole 10)) ≡ 0x3dcc_cccd
unfolding Ieee.to_bits Ieee.div Ieee.of_int
tenth = refl

-- the largest single and half a step, 2 ^ 103, is an infinity; and a little less than half a step is lost
at-end : bits (ieee Add (single 0x7f7f_ffff) (single 0x7300_0000)) ≡ 0x7f80_0000
unfolding Ieee.to_bits Ieee.add Ieee.of_bits
at-end = refl

before-end : bits (ieee Add (single 0x7f7f_ffff) (single 0x72ff_ffff)) ≡ 0x7f7f_ffff
unfolding Ieee.to_bits Ieee.add Ieee.of_bits
before-end = refl

-- fmod is exact over the whole range: the largest single leaves 0 at three of the smallest and, negative, -10 of it at eleven
rem-three : bits (ieee Rem (single 0x7f7f_ffff) (single 3)) ≡ 0
unfolding Ieee.to_bits Ieee.rem Ieee.of_bits
rem-three = refl

rem-eleven : bits (ieee Rem (single 0xff7f_ffff) (single 11)) ≡ 0x8000_000a
unfolding Ieee.to_bits Ieee.rem Ieee.of_bits
rem-eleven = refl

-- -0.0 + -0.0 is -0.0, and 1 - 1 is 0.0
negative-zeros : bits (ieee Add (single 0x8000_0000) (single 0x8000_0000)) ≡ 0x8000_0000
unfolding Ieee.to_bits Ieee.add Ieee.of_bits
negative-zeros = refl

no_difference : bits (ieee Sub (whole 1) (whole 1)) ≡ 0
unfolding Ieee.to_bits Ieee.sub Ieee.of_int
no_difference = refl
