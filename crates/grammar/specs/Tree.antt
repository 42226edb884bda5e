-- The tree of a formula (paper 01: "Its tree is what the grammar and grouping make of its tokens, parentheses that only enclose left out"), its kind, and its
-- diagnostic. A node keeps the place of its literal, operator or function, a total that of its count; cells and TICKms() keep none.
use Rattle.std.specs.Prelude.{Bool, true, false, ◌&&◌, ◌||◌, cond, ℕ, eqb, ltb, leb, ℤ}
use Rattle.values.specs.declared.Kind.{Kind}
use Rattle.values.specs.declared.Kind.TheVariants as K
use Rattle.values.specs.declared.Value.{Value}
use Rattle.values.specs.Values.{kind_of}
use Rattle.operators.specs.declared.UnaryOp.{UnaryOp}
use Rattle.operators.specs.declared.BinaryOp.{BinaryOp}
use Rattle.operators.specs.Kinds.{is_int, join, unary_kind, unary_takes, binary_kind, binary_takes}
use Rattle.memory.specs.declared.Bank.{Bank}
use Rattle.memory.specs.Cells.{bank_kind}
use Rattle.totals.specs.declared.TotalOp.{TotalOp}
use Rattle.totals.specs.declared.MatchOp.{MatchOp}
use Rattle.totals.specs.Totals.{total_kind, match_kind, good_count}

-- logic d: `&&` for d false, `||` for d true, the truth of the left side that decides; tick and since: TICKms() and SINCE (paper 02, Ask 13);
-- total and matching: a total over a run of cells (Ask 2), the place of the count, the first cell, and the count's value, good or not
pub data Tree : Type 0 where
  literal : ℕ → Value → Tree
  cell : Bank → ℕ → Tree
  indexed : Bank → Tree → Tree
  unary : ℕ → UnaryOp → Tree → Tree
  binary : ℕ → BinaryOp → Tree → Tree → Tree
  logic : ℕ → Bool → Tree → Tree → Tree
  choice : ℕ → Tree → Tree → Tree → Tree
  tick : Tree
  since : ℕ → Tree → Tree
  total : ℕ → TotalOp → Bank → ℕ → ℤ → Tree
  matching : ℕ → MatchOp → Tree → Bank → ℕ → ℤ → Tree

-- "The kind is known from the text alone."
unfoldable pub tree_kind : Tree → Kind
tree_kind (literal p v) = kind_of v
tree_kind (cell b i) = bank_kind b
tree_kind (indexed b t) = bank_kind b
tree_kind (unary p o t) = unary_kind o (tree_kind t)
tree_kind (binary p o t u) = binary_kind o (tree_kind t) (tree_kind u)
tree_kind (logic p d t u) = K.Int
tree_kind (choice p c t u) = join (tree_kind t) (tree_kind u)
tree_kind tick = K.Int
tree_kind (since p t) = K.Int
tree_kind (total p o b i n) = total_kind o b
tree_kind (matching p o t b i n) = match_kind o b

-- what a tree shows to be wrong with its text: nothing, or a place and the answer that refuses the text there
pub data Diagnostic : Type 0 where
  clear : Diagnostic
  at : ℕ → ℕ → Diagnostic

-- "smallest place", and of two at one place the smaller answer
abbrev pub precedes : ℕ → ℕ → ℕ → ℕ → Bool
precedes p a q b = ltb p q || eqb p q && leb a b

abbrev pub earlier : Diagnostic → Diagnostic → Diagnostic
earlier clear y = y
earlier (at p a) clear = at p a
earlier (at p a) (at q b) = cond (precedes p a q b) (at p a) (at q b)

abbrev pub unless : Bool → Diagnostic → Diagnostic
unless true x = clear
unless false x = x

-- answer 9: "an operand of the wrong kind", "placed at the operator"
abbrev pub wrong_kind_at : ℕ → Diagnostic
wrong_kind_at p = at p 9

-- answer 6 of a count: "a count below 1 or a range past the bank is 6 at the numeral; this 6 is looked for together with 9"
abbrev pub wrong_count_at : ℕ → Diagnostic
wrong_count_at p = at p 6

unfoldable pub diagnostic_of : Tree → Diagnostic
unfolding tree_kind
diagnostic_of (literal p v) = clear
diagnostic_of (cell b i) = clear
diagnostic_of (indexed b t) = diagnostic_of t
diagnostic_of (unary p o t) = earlier (unless (unary_takes o (tree_kind t)) (wrong_kind_at p)) (diagnostic_of t)
diagnostic_of (binary p o t u) = earlier (unless (binary_takes o (tree_kind t) (tree_kind u)) (wrong_kind_at p)) (earlier (diagnostic_of t) (diagnostic_of u))
diagnostic_of (logic p d t u) = earlier (diagnostic_of t) (diagnostic_of u)
diagnostic_of (choice p c t u) = earlier (diagnostic_of c) (earlier (diagnostic_of t) (diagnostic_of u))
diagnostic_of tick = clear
diagnostic_of (since p t) = earlier (unless (is_int (tree_kind t)) (wrong_kind_at p)) (diagnostic_of t)
diagnostic_of (total p o b i n) = unless (good_count b i n) (wrong_count_at p)
diagnostic_of (matching p o t b i n) = earlier (unless (good_count b i n) (wrong_count_at p)) (diagnostic_of t)
