-- Between the kinds (paper 01): "Promotion gives the nearest single, ties to even"; "TRUNC and TOINT cut toward zero; ROUND takes the nearest, halves away
-- from zero; all give integers, or 13 outside 32 bits". A cut is stated on the single's size in units of 2 ^ -149.
use Rattle.std.specs.Prelude.{ℕ, ◌+◌, ◌*◌, ◌/◌, ◌^◌, cond, ℤ, Float, Option, Some, None}
use Rattle.std.specs.Float.Ieee as Ieee
use Rattle.std.specs.Float.{binary32}
use Rattle.std.specs.Float.Ieee.Scale.{finite}
use Rattle.reals.specs.Singles.{negative, unit_count, signed}
use Rattle.values.specs.Integers.{in_range}

-- the nearest single, ties to even: `promote` of the crate reals' laws
abbrev pub promoted : ℤ → Float
promoted z = Ieee.of_int binary32 z

abbrev pub cut : ℤ → Option ℤ
cut z = cond (in_range z) (Some z) None

-- a finite single to an integer with its sign, of the size that f makes of its size; an infinity or a NaN has none
abbrev pub cut_by : (ℕ → ℕ) → Float → Option ℤ
cut_by f x = cond (finite x) (cut (signed (negative x) (f (unit_count x)))) None

-- toward zero: 2 ^ 149 units are 1
abbrev pub truncated : Float → Option ℤ
truncated x = cut_by (λ n. n / 2 ^ 149) x

-- nearest, halves away from zero: `halves` of the crate reals' laws at a = n, b = 2 ^ 149
abbrev pub rounded : Float → Option ℤ
rounded x = cut_by (λ n. (2 * n + 2 ^ 149) / (2 * 2 ^ 149)) x
