-- Integers (paper 01): "Integer `+ - * **`, negate, ABS: the exact value, or 12 if it lies outside 32 bits. `/` truncates, `%` takes the
-- dividend's sign; zero divisor is 11; least integer / -1 is 12, % -1 is 0."
use Rattle.std.specs.Prelude.{ℕ, zero, suc, ◌-◌, ◌^◌, Bool, cond, not, ◌&&◌, ℤ, pos, ◌+ℤ◌, ◌-ℤ◌, ◌*ℤ◌, neg_ℤ, int_div, int_le, int_lt, int_rem, unsigned_abs}
use Rattle.reals.specs.declared.ArithOp.{ArithOp}
use Rattle.reals.specs.declared.ArithOp.TheVariants.{Add, Sub, Mul, Div, Rem}
use Rattle.values.specs.declared.Value.TheVariants.{Int}
use Rattle.values.specs.declared.Fault.TheVariants.{DividedByZero, Overflow, OutOfRange}
use Rattle.values.specs.declared.Outcome.{Outcome}
use Rattle.values.specs.declared.Outcome.TheVariants.{Done, Stopped}
use Rattle.values.specs.declared.CompareOp.{CompareOp}
use Rattle.values.specs.declared.CompareOp.TheVariants.{Lt, Gt, Le, Ge, Eq, Ne}
use Rattle.values.specs.declared.ChoiceOp.{ChoiceOp}
use Rattle.values.specs.declared.ChoiceOp.TheVariants.{Max, Min}

-- from a to b, both included
abbrev pub between : ℤ → ℤ → ℤ → Bool
between a b z = int_le a z && int_le z b

-- 32 bits hold z
abbrev pub in_range : ℤ → Bool
in_range z = between (neg_ℤ (pos (2 ^ 31))) (pos (2 ^ 31 - 1)) z

-- the exact value, or 12
abbrev pub exact_int : ℤ → Outcome
exact_int z = cond (in_range z) (Done (Int z)) (Stopped Overflow)

abbrev pub equal_z : ℤ → ℤ → Bool
equal_z a b = int_le a b && int_le b a

-- `int_div` cuts toward zero; `int_rem` has the dividend's sign
abbrev pub int_arith : ArithOp → ℤ → ℤ → Outcome
int_arith Add a b = exact_int (a +ℤ b)
int_arith Sub a b = exact_int (a -ℤ b)
int_arith Mul a b = exact_int (a *ℤ b)
int_arith Div a b = cond (equal_z b (pos 0)) (Stopped DividedByZero) (exact_int (int_div a b))
int_arith Rem a b = cond (equal_z b (pos 0)) (Stopped DividedByZero) (exact_int (int_rem a b))

abbrev pub compare_int : CompareOp → ℤ → ℤ → Bool
compare_int Lt a b = int_lt a b
compare_int Gt a b = int_lt b a
compare_int Le a b = int_le a b
compare_int Ge a b = int_le b a
compare_int Eq a b = equal_z a b
compare_int Ne a b = not (equal_z a b)

-- "MAX gives the second only if first < second, MIN only if second < first."
abbrev pub choice_int : ChoiceOp → ℤ → ℤ → ℤ
choice_int Max a b = cond (int_lt a b) b a
choice_int Min a b = cond (int_lt b a) b a

abbrev pub pow_z : ℤ → ℕ → ℤ
pow_z a zero = pos 1
pow_z a (suc n) = pow_z a n *ℤ a

-- "`**`: exponent 0 to 64, else 13. Anything to 0 is 1 of its kind."
abbrev pub exponent : ℤ → Bool
exponent n = between (pos 0) (pos 64) n

abbrev pub int_power : ℤ → ℤ → Outcome
int_power a n = cond (exponent n) (exact_int (pow_z a (unsigned_abs n))) (Stopped OutOfRange)
