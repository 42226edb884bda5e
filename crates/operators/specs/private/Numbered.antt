-- What the binary operator of a number makes of two values. For the contracts of `operators::numbered`; a reader believes `binary_of` and `binary_rule`.
use Rattle.std.specs.Prelude.{◌≡◌, ◌≢◌, ℕ, Float, Option, Some, None}
use Rattle.values.specs.declared.Value.{Value}
use Rattle.values.specs.declared.Outcome.{Outcome}
use Rattle.values.specs.declared.Outcome.TheVariants.{WrongKind}
use Rattle.operators.specs.declared.Pair.TheVariants.{Reals}
use Rattle.operators.specs.Operators.{pair_of, binary_rule}
use Rattle.operators.specs.Tables.{binary_of}
use Rattle.operators.specs.declared.BinaryOp.{BinaryOp}

-- where the number is no operator's, no operand is taken
abbrev pub binary_numbered : Option BinaryOp → Value → Value → Outcome
binary_numbered (Some o) a b = binary_rule o a b
binary_numbered None a b = WrongKind

-- r is what the operator n, which is not the power, makes of any operands that pair as the reals x and y
abbrev pub OnReals : ℕ → Float → Float → Outcome → Type 0
OnReals n x y r = (a b : Value) → pair_of a b ≡ Reals x y → n ≢ 0 → r ≡ binary_numbered (binary_of n) a b
