-- One rule for each operator of paper 01, on values of either kind, and the rule of an index. A rule gives a value, a fault, or `WrongKind` for an operand
-- that the operator does not take (answer 9, told from the text alone). The numbers themselves are the crate values'.
use Rattle.std.specs.Prelude.{Bool, true, false, not, cond, ℕ, ltb, ℤ, pos, negsuc, neg_ℤ, nat_abs, Float, Option, Result, Some, None, Ok, Err}
use Rattle.reals.specs.declared.ArithOp.{ArithOp}
use Rattle.reals.specs.declared.ArithOp.TheVariants.{Rem}
use Rattle.values.specs.declared.Kind.{Kind}
use Rattle.values.specs.declared.Kind.TheVariants as K
use Rattle.values.specs.declared.Value.{Value}
use Rattle.values.specs.declared.Value.TheVariants.{Int, Real}
use Rattle.values.specs.declared.Fault.TheVariants.{OutOfRange, IndexError}
use Rattle.values.specs.declared.Outcome.{Outcome}
use Rattle.values.specs.declared.Outcome.TheVariants.{Done, Stopped, WrongKind}
use Rattle.values.specs.declared.BitOp.{BitOp}
use Rattle.values.specs.declared.ShiftOp.{ShiftOp}
use Rattle.values.specs.declared.CompareOp.{CompareOp}
use Rattle.values.specs.declared.CompareOp.TheVariants.{Lt, Ne}
use Rattle.values.specs.declared.ChoiceOp.{ChoiceOp}
use Rattle.values.specs.Integers.{exact_int, int_arith, compare_int, choice_int, int_power}
use Rattle.values.specs.Patterns.{bitwise_int, complement_int, shift_int, since_int}
use Rattle.values.specs.Singles.{zero_real, one_real, real_arith, compare_real, choice_real, real_neg, real_abs, real_power}
use Rattle.values.specs.Convert.{promoted, truncated, rounded}
use Rattle.operators.specs.declared.Pair.{Pair}
use Rattle.operators.specs.declared.Pair.TheVariants.{Ints, Reals}
use Rattle.operators.specs.declared.BinaryOp.{BinaryOp}
use Rattle.operators.specs.declared.BinaryOp.TheVariants.{Arith, Power, Shift, Compare, Bits, Choice}
use Rattle.operators.specs.declared.UnaryOp.{UnaryOp}
use Rattle.operators.specs.declared.UnaryOp.TheVariants.{Neg, Complement, Not, Abs, ToReal, Trunc, Round, Frac}
use Rattle.values.specs.declared.Fault.{Fault}

-- "TOREAL promotes an integer and leaves a real as it is."
abbrev pub as_real : Value → Float
as_real (Int z) = promoted z
as_real (Real x) = x

-- "Where one operand of `+ - * / %`, a comparison, MAX or MIN is real, the other is promoted"
abbrev pub pair_of : Value → Value → Pair
pair_of (Int a) (Int b) = Ints a b
pair_of (Int a) (Real y) = Reals (promoted a) y
pair_of (Real x) b = Reals x (as_real b)

abbrev pub on_pair : {A : Type 0} → (ℤ → ℤ → A) → (Float → Float → A) → Pair → A
on_pair f g (Ints a b) = f a b
on_pair f g (Reals x y) = g x y

-- f on two integers, g on reals
abbrev pub promoting : {A : Type 0} → (ℤ → ℤ → A) → (Float → Float → A) → Value → Value → A
promoting f g a b = on_pair f g (pair_of a b)

abbrev pub arith_rule : ArithOp → Value → Value → Outcome
arith_rule o = promoting (int_arith o) (real_arith o)

abbrev pub compare_rule : CompareOp → Value → Value → Bool
compare_rule o = promoting (compare_int o) (compare_real o)

abbrev pub choice_rule : ChoiceOp → Value → Value → Value
choice_rule o = promoting (λ a b. Int (choice_int o a b)) (λ x y. Real (choice_real o x y))

-- "The exponent of `**` must be an integer"
abbrev pub power_rule : Value → Value → Outcome
power_rule (Int a) (Int n) = int_power a n
power_rule (Real x) (Int n) = real_power x n
power_rule a (Real y) = WrongKind

-- "Bitwise operators and shifts need integers": f on two integers
abbrev pub on_ints : (ℤ → ℤ → Outcome) → Value → Value → Outcome
on_ints f (Int a) (Int b) = f a b
on_ints f (Int a) (Real y) = WrongKind
on_ints f (Real x) b = WrongKind

abbrev pub bits_rule : BitOp → Value → Value → Outcome
bits_rule o = on_ints (λ a b. Done (Int (bitwise_int o a b)))

abbrev pub shift_rule : ShiftOp → Value → Value → Outcome
shift_rule o = on_ints (shift_int o)

-- "Comparisons, `! && ||` give integer 0 or 1"
abbrev pub from_bool : Bool → Value
from_bool true = Int (pos 1)
from_bool false = Int (pos 0)

abbrev pub binary_rule : BinaryOp → Value → Value → Outcome
binary_rule (Arith o) a b = arith_rule o a b
binary_rule Power a b = power_rule a b
binary_rule (Shift o) a b = shift_rule o a b
binary_rule (Compare o) a b = Done (from_bool (compare_rule o a b))
binary_rule (Bits o) a b = bits_rule o a b
binary_rule (Choice o) a b = Done (choice_rule o a b)

-- "non-zero is true; -0.0 is zero"
abbrev pub truth_rule : Value → Bool
truth_rule (Int z) = compare_int Ne z (pos 0)
truth_rule (Real x) = compare_real Ne x zero_real

-- "or 13 outside 32 bits"
abbrev pub cut_outcome : Option ℤ → Outcome
cut_outcome (Some z) = Done (Int z)
cut_outcome None = Stopped OutOfRange

-- "TRUNC and TOINT .. ROUND .. leave an integer as it is": f on a real
abbrev pub cutting : (Float → Option ℤ) → Value → Outcome
cutting f (Int z) = Done (Int z)
cutting f (Real x) = cut_outcome (f x)

-- the integer by f, the real by g
abbrev pub either : (ℤ → Outcome) → (Float → Outcome) → Value → Outcome
either f g (Int z) = f z
either f g (Real x) = g x

-- "FRAC promotes an integer and is the real remainder by 1.0."
abbrev pub unary_rule : UnaryOp → Value → Outcome
unary_rule Neg v = either (λ z. exact_int (neg_ℤ z)) (λ x. Done (Real (real_neg x))) v
unary_rule Complement v = either (λ z. Done (Int (complement_int z))) (λ x. WrongKind) v
unary_rule Not v = Done (from_bool (not (truth_rule v)))
unary_rule Abs v = either (λ z. exact_int (pos (nat_abs z))) (λ x. Done (Real (real_abs x))) v
unary_rule ToReal v = Done (Real (as_real v))
unary_rule Trunc v = cutting truncated v
unary_rule Round v = cutting rounded v
unary_rule Frac v = real_arith Rem (as_real v) one_real

-- SINCE(x) at the tick t: "9 at SINCE for a real x" (paper 02, Ask 13)
abbrev pub since_rule : ℕ → Value → Outcome
since_rule t v = either (λ z. Done (Int (since_int t z))) (λ x. WrongKind) v

-- "IF promotes the chosen branch if either branch is real": v is chosen, the other branch is of the kind given
abbrev pub branch_rule : Value → Kind → Value
branch_rule v K.Int = v
branch_rule v K.Real = Real (as_real v)

-- "then 14 if outside its bank": the element of a number, among n
abbrev pub element_below : ℕ → ℤ → Result ℕ Fault
element_below n (pos i) = cond (ltb i n) (Ok i) (Err IndexError)
element_below n (negsuc i) = Err IndexError

-- "An index is truncated if real (13 outside 32 bits)"
abbrev pub cut_below : ℕ → Option ℤ → Result ℕ Fault
cut_below n (Some z) = element_below n z
cut_below n None = Err OutOfRange

-- "A real index below zero is now 14 before any truncation; -0.0 still reads element 0." (paper 02, Ask 5): the element that an index names, among n
abbrev pub index_rule : ℕ → Value → Result ℕ Fault
index_rule n (Int z) = element_below n z
index_rule n (Real x) = cond (compare_real Lt x zero_real) (Err IndexError) (cut_below n (truncated x))
