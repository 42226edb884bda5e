-- The profile without reals (paper 02, Ask 12): which values and operators are real, "real literals, TOREAL, FRAC".
use Rattle.std.specs.Prelude.{Bool, true, false, not}
use Rattle.values.specs.declared.Value.{Value}
use Rattle.values.specs.Values.{kind_of}
use Rattle.operators.specs.declared.UnaryOp.{UnaryOp}
use Rattle.operators.specs.declared.UnaryOp.TheVariants.{Neg, Complement, Not, Abs, ToReal, Trunc, Round, Frac}
use Rattle.operators.specs.Kinds.{is_int}

-- a value that is a real: of a literal, "real literals"
abbrev pub real_value : Value → Bool
real_value v = not (is_int (kind_of v))

-- "TOREAL, FRAC": what they leave is a real, whatever they take
abbrev pub real_unary : UnaryOp → Bool
real_unary Neg = false
real_unary Complement = false
real_unary Not = false
real_unary Abs = false
real_unary ToReal = true
real_unary Trunc = false
real_unary Round = false
real_unary Frac = true
