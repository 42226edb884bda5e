-- The proofs' own words for what specs/ states, of any format and on sizes alone, in units of the format's smallest value.
-- At a format that is a variable no power of two is written out; at `binary32` they say what specs/ states.
use mathlib.Core.Logic.{◌≢◌}
use mathlib.Core.Path.{◌≡◌}
use mathlib.Core.Bool.{Bool}
use Prim.Native.Nat.{ℕ, ◌+◌, ◌-◌, ◌*◌, ◌/◌, ◌^◌, ◌≤◌, ◌<◌}
use lib.Ieee.{Float, nan, inf, fin, up, down, Format, prec, emax, low}
use lib.Ieee.Exact.{HasValue}
use lib.Ieee.Scale.{overflow}
use Rattle.reals.specs.Rounding.{distance}

-- the sizes of the finite values, as `Size`
pub record Held (f : Format) (n : ℕ) : Type 0 where
  pub digits : ℕ
  pub place : ℕ
  pub few : digits < 2 ^ prec f
  pub is : n ≡ digits * 2 ^ place
  pub below : n < overflow f

-- the significand can be even
pub record Even (f : Format) (n : ℕ) : Type 0 where
  pub half : ℕ
  pub place : ℕ
  pub few : 2 * half < 2 ^ prec f
  pub is : n ≡ 2 * half * 2 ^ place

-- n is the size nearest to a / b units, and of two as near the even one, as `Closest`
pub record Nearest (f : Format) (a b n : ℕ) : Type 0 where
  pub held : Held f n
  pub least : (o : ℕ) → Held f o → distance (n * b) a ≤ distance (o * b) a
  pub even : (o : ℕ) → Held f o → o ≢ n → distance (o * b) a ≡ distance (n * b) a → Even f n

-- from here on the result is an infinity, as `end`
abbrev pub limit : Format → ℕ
limit f = overflow f - 2 ^ (low f + emax f - prec f)

-- the size of a float, as `units`
abbrev pub units_of : Format → Float → ℕ
units_of f nan = 0
units_of f (inf s) = 0
units_of f (fin s m e) = m * up e * 2 ^ low f / down e

-- x is finite, with the sign s and the size n
abbrev pub Is : Format → Float → Bool → ℕ → Type 0
Is f x s n = HasValue x s n (2 ^ low f)

-- x is ±a / b units, rounded, as `Rounds`
pub data Rounded (f : Format) (s : Bool) (a b : ℕ) (x : Float) : Type 0 where
  to : (n : ℕ) → a < limit f * b → Is f x s n → Nearest f a b n → Rounded f s a b x
  over : limit f * b ≤ a → x ≡ inf s → Rounded f s a b x
