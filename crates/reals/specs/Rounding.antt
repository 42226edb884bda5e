-- "The nearest single, ties to even", on whole numbers. A result that is not whole is a fraction of units, and is compared
-- with singles by multiplying through by its denominator (paper 01: "fractions by cross-multiplying"). Assumes nothing.
use Rattle.std.specs.Prelude.{◌≡◌, ◌≢◌, Bool, ℕ, ◌+◌, ◌-◌, ◌*◌, ◌%◌, ◌^◌, ◌≤◌, ◌<◌, Float}
use Rattle.std.specs.Float.{inf, binary32}
use Rattle.std.specs.Float.Ieee.{to_bits}
use Rattle.reals.specs.Singles.{Single, negative, unit_count}

-- the exact result of an operation: num / den units, with a sign
pub record Fraction : Type 0 where
  pub sign : Bool
  pub num : ℕ
  pub den : ℕ

-- the distance of two whole numbers
abbrev pub distance : ℕ → ℕ → ℕ
distance a b = (a - b) + (b - a)

-- No single is nearer to a / b units than x; and where another is as near, the last digit of x is 0. A single's last digit
-- is the last bit of its pattern. Both distances are multiplied by b.
pub record Closest (a b : ℕ) (x : Float) : Type 0 where
  pub least : (y : Float) → Single y → distance (unit_count x * b) a ≤ distance (unit_count y * b) a
  pub even : (y : Float) → Single y → unit_count y ≢ unit_count x → distance (unit_count y * b) a ≡ distance (unit_count x * b) a → to_bits binary32 x % 2 ≡ 0

-- The end of the range: halfway from the largest single, 2 ^ 277 - 2 ^ 253 units, to 2 ^ 277, which would come next. What lies
-- there or beyond is an infinity.
abbrev pub overflow_units : ℕ
overflow_units = 2 ^ 277 - 2 ^ 252

-- x is the fraction q, rounded
pub data Rounds (q : Fraction) (x : Float) : Type 0 where
  near : q.num < overflow_units * q.den → Single x → negative x ≡ q.sign → Closest q.num q.den x → Rounds q x
  over : overflow_units * q.den ≤ q.num → x ≡ inf q.sign → Rounds q x

-- q is the whole number nearest to a / b, and of two as near the larger one: so of a size, halves away from zero
pub record ClosestWhole (a b q : ℕ) : Type 0 where
  pub least : (o : ℕ) → distance (q * b) a ≤ distance (o * b) a
  pub away : (o : ℕ) → distance (o * b) a ≡ distance (q * b) a → o ≤ q
