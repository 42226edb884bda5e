-- Singles (paper 01): "Real: one IEEE operation; `%` as C's fmod. .. Zero divisor (either sign) is 11; an infinite result is 12. Underflow is gradual
-- and no fault." What `ieee` gives on whole numbers is the crate reals'.
-- A NaN never comes out of a memory, and no operation of finite singles with a divisor above zero gives one. So that the rules are total, a NaN result is 13.
use Rattle.std.specs.Prelude.{ℕ, zero, suc, Bool, false, cond, ◌&&◌, ℤ, pos, unsigned_abs, Float}
use Rattle.std.specs.Float.Ieee as Ieee
use Rattle.std.specs.Float.{nan, inf, fin}
use Rattle.reals.specs.declared.ArithOp.{ArithOp}
use Rattle.reals.specs.declared.ArithOp.TheVariants.{Mul}
use Rattle.reals.specs.Operations.{ieee, divides}
use Rattle.values.specs.declared.Value.TheVariants.{Int, Real}
use Rattle.values.specs.declared.Fault.TheVariants.{DividedByZero, Overflow, OutOfRange}
use Rattle.values.specs.declared.Outcome.{Outcome}
use Rattle.values.specs.declared.Outcome.TheVariants.{Done, Stopped, WrongKind}
use Rattle.values.specs.declared.CompareOp.{CompareOp}
use Rattle.values.specs.declared.CompareOp.TheVariants.{Lt, Gt, Le, Ge, Eq, Ne}
use Rattle.values.specs.declared.ChoiceOp.{ChoiceOp}
use Rattle.values.specs.declared.ChoiceOp.TheVariants.{Max, Min}
use Rattle.values.specs.Integers.{exponent}

abbrev pub zero_real : Float
zero_real = fin false 0 (pos 0)

abbrev pub one_real : Float
one_real = fin false 1 (pos 0)

-- a finite result, or 12 for an infinity
abbrev pub settle : Float → Outcome
settle nan = Stopped OutOfRange
settle (inf s) = Stopped Overflow
settle (fin s m e) = Done (Real (fin s m e))

abbrev pub real_arith : ArithOp → Float → Float → Outcome
real_arith o x y = cond (divides o && Ieee.eq y zero_real) (Stopped DividedByZero) (settle (ieee o x y))

-- IEEE comparisons: -0.0 equals 0.0
abbrev pub compare_real : CompareOp → Float → Float → Bool
compare_real Lt x y = Ieee.lt x y
compare_real Gt x y = Ieee.lt y x
compare_real Le x y = Ieee.le x y
compare_real Ge x y = Ieee.le y x
compare_real Eq x y = Ieee.eq x y
compare_real Ne x y = Ieee.ne x y

-- MAX and MIN, as for integers: so of -0.0 and 0.0 the first
abbrev pub choice_real : ChoiceOp → Float → Float → Float
choice_real Max x y = cond (Ieee.lt x y) y x
choice_real Min x y = cond (Ieee.lt y x) y x

-- "Real negate and ABS act on the sign alone."
abbrev pub real_neg : Float → Float
real_neg x = Ieee.neg x

abbrev pub real_abs : Float → Float
real_abs nan = nan
real_abs (inf s) = inf false
real_abs (fin s m e) = fin false m e

-- a real outcome times x
abbrev pub times_real : Outcome → Float → Outcome
times_real (Done (Real p)) x = settle (ieee Mul p x)
times_real (Done (Int z)) x = WrongKind
times_real (Stopped f) x = Stopped f
times_real WrongKind x = WrongKind

-- "A real power is 1.0 multiplied by the base that many times, rounded each time."
abbrev pub real_product : Float → ℕ → Outcome
real_product x zero = Done (Real one_real)
real_product x (suc n) = times_real (real_product x n) x

abbrev pub real_power : Float → ℤ → Outcome
real_power x n = cond (exponent n) (real_product x (unsigned_abs n)) (Stopped OutOfRange)
