-- The operators by number, in the order in which paper 01 lists them ("Grammar and grouping"), then the functions. The instruction set and the symbols of
-- the text use these numbers.
use Rattle.std.specs.Prelude.{cond, List, [], ◌∷◌, ℕ, ltb, get_or, Option, Some, None}
use Rattle.reals.specs.declared.ArithOp.TheVariants.{Add, Sub, Mul, Div, Rem}
use Rattle.values.specs.declared.BitOp.TheVariants.{And, Or, Xor}
use Rattle.values.specs.declared.ShiftOp.TheVariants.{Left, Right, RightZero}
use Rattle.values.specs.declared.CompareOp.TheVariants.{Lt, Gt, Le, Ge, Eq, Ne}
use Rattle.values.specs.declared.ChoiceOp.TheVariants.{Max, Min}
use Rattle.operators.specs.declared.UnaryOp.{UnaryOp}
use Rattle.operators.specs.declared.UnaryOp.TheVariants.{Neg, Complement, Not, Abs, ToReal, Trunc, Round, Frac}
use Rattle.operators.specs.declared.BinaryOp.{BinaryOp}
use Rattle.operators.specs.declared.BinaryOp.TheVariants.{Arith, Power, Shift, Compare, Bits, Choice}

abbrev pub unary_ops : List UnaryOp
unary_ops = Neg ∷ Complement ∷ Not ∷ Abs ∷ ToReal ∷ Trunc ∷ Round ∷ Frac ∷ []

abbrev pub binary_ops : List BinaryOp
binary_ops =
    Power ∷ Arith Mul ∷ Arith Div ∷ Arith Rem ∷ Arith Add ∷ Arith Sub ∷ Shift Left ∷ Shift Right ∷ Shift RightZero
    ∷ Compare Lt ∷ Compare Gt ∷ Compare Le ∷ Compare Ge ∷ Compare Eq ∷ Compare Ne ∷ Bits And ∷ Bits Xor ∷ Bits Or ∷ Choice Max ∷ Choice Min ∷ []

abbrev pub unary_of : ℕ → Option UnaryOp
unary_of n = cond (ltb n 8) (Some (get_or unary_ops n Neg)) None

abbrev pub binary_of : ℕ → Option BinaryOp
binary_of n = cond (ltb n 20) (Some (get_or binary_ops n (Arith Add))) None

abbrev pub unary_number : UnaryOp → ℕ
unary_number Neg = 0
unary_number Complement = 1
unary_number Not = 2
unary_number Abs = 3
unary_number ToReal = 4
unary_number Trunc = 5
unary_number Round = 6
unary_number Frac = 7

abbrev pub binary_number : BinaryOp → ℕ
binary_number Power = 0
binary_number (Arith Mul) = 1
binary_number (Arith Div) = 2
binary_number (Arith Rem) = 3
binary_number (Arith Add) = 4
binary_number (Arith Sub) = 5
binary_number (Shift Left) = 6
binary_number (Shift Right) = 7
binary_number (Shift RightZero) = 8
binary_number (Compare Lt) = 9
binary_number (Compare Gt) = 10
binary_number (Compare Le) = 11
binary_number (Compare Ge) = 12
binary_number (Compare Eq) = 13
binary_number (Compare Ne) = 14
binary_number (Bits And) = 15
binary_number (Bits Xor) = 16
binary_number (Bits Or) = 17
binary_number (Choice Max) = 18
binary_number (Choice Min) = 19
