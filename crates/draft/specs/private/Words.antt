-- For the contracts of private functions: what is asked of a token's word.
use Rattle.std.specs.Prelude.{◌≡◌, Bool, false, cond, ◌&&◌, ◌||◌, List, ℕ, ◌+◌, ◌*◌, ◌%◌, ◌≤◌, ◌<◌, eqb, leb, ltb, length, get_or}
use Rattle.values.specs.declared.Kind.{Kind}
use Rattle.values.specs.declared.Kind.TheVariants.{Int, Real}
use Rattle.operators.specs.declared.UnaryOp.{UnaryOp}
use Rattle.operators.specs.declared.UnaryOp.TheVariants as U
use Rattle.operators.specs.declared.BinaryOp.{BinaryOp}
use Rattle.operators.specs.declared.BinaryOp.TheVariants as B
use Rattle.operators.specs.Tables.{unary_ops, binary_ops}
use Rattle.memory.specs.declared.Bank.{Bank}
use Rattle.memory.specs.declared.Bank.TheVariants.{X}
use Rattle.memory.specs.Cells.{bank_kind}
use Rattle.memory.specs.Numbers.{banks}
use Rattle.token_table.specs.private.Table.{word_class, word_operand, word_place, word_at}
use Rattle.grammar.specs.Functions.{function_operator}
use Rattle.grammar.specs.Symbols.{minus, tilde, bang, group_number}
use Rattle.code.specs.Instructions.{PUSH-INT, PUSH-REAL, LOAD}

-- operators and banks by number
abbrev pub unary_at : ℕ → UnaryOp
unary_at n = get_or unary_ops n U.Neg

abbrev pub binary_at : ℕ → BinaryOp
binary_at n = get_or binary_ops n B.Power

abbrev pub bank_at : ℕ → Bank
bank_at n = get_or banks n X

-- the operator of a function of one argument, and of one of two
abbrev pub function_op : ℕ → UnaryOp
function_op f = unary_at (function_operator f)

abbrev pub function_pair : ℕ → BinaryOp
function_pair f = binary_at (function_operator f)

-- a number or a cell
abbrev pub is_leaf : ℕ → Bool
is_leaf w = cond (eqb (word_class w) 0) false (ltb (word_class w) 4)

abbrev pub leaf_kind : ℕ → Kind
leaf_kind w = cond (eqb (word_class w) 1) Int (cond (eqb (word_class w) 2) Real (bank_kind (bank_at (word_operand w))))

-- the opcode of a token of the class c with the operand n, which is a number or a cell
abbrev pub leaf_opcode : ℕ → ℕ → ℕ
leaf_opcode c n = cond (eqb c 1) PUSH-INT (cond (eqb c 2) PUSH-REAL (LOAD + n))

-- the symbol n
abbrev pub is_mark : ℕ → ℕ → Bool
is_mark n w = eqb (w % 65536) (6 + 256 * n)

-- the number of a unary operator, or 3
abbrev pub prefix_number : ℕ → ℕ
prefix_number w = cond (is_mark minus w) 0 (cond (is_mark tilde w) 1 (cond (is_mark bang w) 2 3))

-- the group of a binary operator, or 0
abbrev pub group_in : ℕ → ℕ
group_in w = cond (eqb (word_class w) 6) (group_number (word_operand w)) 0

-- a number or a cell stands at `at`, and no operator of a group below g behind it
abbrev pub is_alone : List ℕ → ℕ → ℕ → Bool
is_alone s at g = is_leaf (word_at s at) && (eqb (group_in (word_at s (at + 1))) 0 || leb g (group_in (word_at s (at + 1))))

-- the place of a token; the text's size behind the last
abbrev pub place_at : ℕ → ℕ → ℕ
place_at size w = cond (eqb (word_class w) 0) size (word_place w)

-- unary operators stand from `at` up to `end`, and no further
pub record Signs (s : List ℕ) (at end : ℕ) : Type 0 where
  pub ahead : at ≤ end
  pub within : end ≤ length s
  pub each : (i : ℕ) → at ≤ i → i < end → prefix_number (word_at s i) < 3
  pub stops : prefix_number (word_at s end) ≡ 3
