-- Singles as whole numbers. Paper 01: "Every finite single is a whole number of units of 2 to the -149".
-- A single is the library's `Float` at its format `binary32`; nothing here rounds. Assumes nothing.
use Rattle.std.specs.Prelude.{◌≡◌, Bool, true, false, ℕ, ◌*◌, ◌/◌, ◌^◌, ◌<◌, ℤ, pos, neg_ℤ, T, Float}
use Rattle.std.specs.Float.{nan, inf, fin, binary32}
use Rattle.std.specs.Float.Ieee.{fits, up, down}
use Rattle.std.specs.Float.Ieee.Scale.{finite}

-- a finite single: a value of the format that is neither an infinity nor a NaN
pub record Single (x : Float) : Type 0 where
  pub fit : T (fits binary32 x)
  pub real : T (finite x)

-- its sign: true where it is set, for -0.0 too
abbrev pub negative : Float → Bool
negative nan = false
negative (inf s) = s
negative (fin s m e) = s

-- its size, in units of 2 ^ -149 (an infinity and a NaN have none; they count 0)
abbrev pub unit_count : Float → ℕ
unit_count nan = 0
unit_count (inf s) = 0
unit_count (fin s m e) = m * up e * 2 ^ 149 / down e

-- the whole number of a sign and a size
abbrev pub signed : Bool → ℕ → ℤ
signed true n = neg_ℤ (pos n)
signed false n = pos n

-- its value, in units: the size with the sign
abbrev pub signed_units : Float → ℤ
signed_units x = signed (negative x) (unit_count x)

-- x is the single with the sign s and the size n
pub record Has (s : Bool) (n : ℕ) (x : Float) : Type 0 where
  pub single : Single x
  pub sign : negative x ≡ s
  pub size : unit_count x ≡ n

-- which sizes there are: a significand of at most 24 binary digits at some place, in all below 2 ^ 277 units, which is 2 ^ 128
pub record Size (n : ℕ) : Type 0 where
  pub digits : ℕ
  pub place : ℕ
  pub few : digits < 2 ^ 24
  pub is : n ≡ digits * 2 ^ place
  pub below : n < 2 ^ 277
