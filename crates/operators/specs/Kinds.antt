-- Kinds (paper 01): "The kind is known from the text alone." "`**` has its base's kind, bitwise and shift results are integers, whatever the operands."
use Rattle.std.specs.Prelude.{Bool, true, false, ◌&&◌, cond, ℕ, ◌+◌, eqb, Option, Some, None}
use Rattle.values.specs.declared.Kind.{Kind}
use Rattle.values.specs.declared.Kind.TheVariants.{Int, Real}
use Rattle.operators.specs.declared.BinaryOp.{BinaryOp}
use Rattle.operators.specs.declared.BinaryOp.TheVariants.{Arith, Power, Shift, Compare, Bits, Choice}
use Rattle.operators.specs.declared.UnaryOp.{UnaryOp}
use Rattle.operators.specs.declared.UnaryOp.TheVariants.{Neg, Complement, Not, Abs, ToReal, Trunc, Round, Frac}

abbrev pub is_int : Kind → Bool
is_int Int = true
is_int Real = false

-- real where either is
abbrev pub join : Kind → Kind → Kind
join Int b = b
join Real b = Real

abbrev pub unary_kind : UnaryOp → Kind → Kind
unary_kind Neg k = k
unary_kind Complement k = Int
unary_kind Not k = Int
unary_kind Abs k = k
unary_kind ToReal k = Real
unary_kind Trunc k = Int
unary_kind Round k = Int
unary_kind Frac k = Real

abbrev pub binary_kind : BinaryOp → Kind → Kind → Kind
binary_kind (Arith o) a b = join a b
binary_kind Power a b = a
binary_kind (Shift o) a b = Int
binary_kind (Compare o) a b = Int
binary_kind (Bits o) a b = Int
binary_kind (Choice o) a b = join a b

-- "Bitwise operators and shifts need integers, else 9."
abbrev pub unary_takes : UnaryOp → Kind → Bool
unary_takes Neg k = true
unary_takes Complement k = is_int k
unary_takes Not k = true
unary_takes Abs k = true
unary_takes ToReal k = true
unary_takes Trunc k = true
unary_takes Round k = true
unary_takes Frac k = true

-- "The exponent of `**` must be an integer, else 9"
abbrev pub binary_takes : BinaryOp → Kind → Kind → Bool
binary_takes (Arith o) a b = true
binary_takes Power a b = is_int b
binary_takes (Shift o) a b = is_int a && is_int b
binary_takes (Compare o) a b = true
binary_takes (Bits o) a b = is_int a && is_int b
binary_takes (Choice o) a b = true

-- ---- as numbers, in the code and in the texts read: any number but 0 stands for a real

abbrev pub number_kind : ℕ → Kind
number_kind n = cond (eqb n 0) Int Real

abbrev pub kind_number : Kind → ℕ
kind_number Int = 0
kind_number Real = 1

-- the number of a result's kind, and 2 more where the operands' kinds are not taken
abbrev pub typed : Bool → Kind → ℕ
typed true k = kind_number k
typed false k = 2 + kind_number k

-- what an operator by number makes of its operands' kinds; 2 where the number is none's
abbrev pub unary_typed : Option UnaryOp → Kind → ℕ
unary_typed (Some o) k = typed (unary_takes o k) (unary_kind o k)
unary_typed None k = 2

abbrev pub binary_typed : Option BinaryOp → Kind → Kind → ℕ
binary_typed (Some o) j k = typed (binary_takes o j k) (binary_kind o j k)
binary_typed None j k = 2
