-- What each token can be in a formula (paper 01, "Grammar and grouping"): "Tightest first: unary `- ~ !`, which may repeat; `**`; `* / %`; `+ -`; `<< >>
-- >>>`; `< > <= >=`; `== !=`; `&`; `^`; `|`; `&&`; `||`." "ABS, TOREAL, TOINT, TRUNC, ROUND, FRAC one, MAX, MIN two, IF three." TICKms has none, SINCE one
-- (paper 02, Ask 13); totals "a first cell and a plain numeral count", "for the IF forms an expression, then" these (Ask 2).
use Rattle.std.specs.Prelude.{Bool, false, cond, List, [], ◌∷◌, ℕ, zero, suc, eqb, ltb, get_or}
use Rattle.values.specs.declared.ChoiceOp.TheVariants as Choose
use Rattle.operators.specs.declared.UnaryOp.{UnaryOp}
use Rattle.operators.specs.declared.UnaryOp.TheVariants as U
use Rattle.operators.specs.declared.BinaryOp.{BinaryOp}
use Rattle.operators.specs.declared.BinaryOp.TheVariants as B
use Rattle.operators.specs.Tables.{binary_ops}
use Rattle.totals.specs.declared.TotalOp.{TotalOp}
use Rattle.totals.specs.declared.MatchOp.{MatchOp}
use Rattle.tokens.specs.declared.Function.{Function}
use Rattle.tokens.specs.declared.Function.TheVariants.{Abs, ToReal, ToInt, Trunc, Round, Frac, Max, Min, If, TickMs, Since, Total, Match}
use Rattle.tokens.specs.declared.Token.{Token}
use Rattle.tokens.specs.declared.Token.TheVariants.{Number, Cell, Letter, Name, Symbol}
use Rattle.grammar.specs.Tree.{Tree, unary, binary, logic, choice, since}

-- the groups of the symbols, in the order of the table of symbols; 0 for a symbol that is no binary operator
abbrev pub groups : List ℕ
groups = 1 ∷ 2 ∷ 2 ∷ 2 ∷ 3 ∷ 3 ∷ 4 ∷ 4 ∷ 4 ∷ 5 ∷ 5 ∷ 5 ∷ 5 ∷ 6 ∷ 6 ∷ 7 ∷ 8 ∷ 9 ∷ 10 ∷ 11 ∷ 0 ∷ 0 ∷ 0 ∷ 0 ∷ 0 ∷ 0 ∷ 0 ∷ []

unfoldable pub group_number : ℕ → ℕ
group_number n = get_or groups n 0

-- the loosest group
abbrev pub loosest : ℕ
loosest = 11

abbrev pub group : Token → ℕ
group (Number v) = 0
group (Cell b i) = 0
group (Letter b) = 0
group (Name f) = 0
group (Symbol n) = group_number n

-- the symbol n is the token
abbrev pub is_symbol : ℕ → Token → Bool
is_symbol n (Number v) = false
is_symbol n (Cell b i) = false
is_symbol n (Letter b) = false
is_symbol n (Name f) = false
is_symbol n (Symbol m) = eqb m n

abbrev pub minus : ℕ
minus = 5

abbrev pub tilde : ℕ
tilde = 20

abbrev pub bang : ℕ
bang = 21

abbrev pub open_paren : ℕ
open_paren = 22

abbrev pub close_paren : ℕ
close_paren = 23

abbrev pub open_index : ℕ
open_index = 24

abbrev pub close_index : ℕ
close_index = 25

abbrev pub comma : ℕ
comma = 26

-- a unary operator, or none
pub data Prefix : Type 0 where
  is : UnaryOp → Prefix
  none : Prefix

abbrev pub prefix_symbol : ℕ → Prefix
prefix_symbol n = cond (eqb n minus) (is U.Neg) (cond (eqb n tilde) (is U.Complement) (cond (eqb n bang) (is U.Not) none))

abbrev pub prefix_of : Token → Prefix
prefix_of (Number v) = none
prefix_of (Cell b i) = none
prefix_of (Letter b) = none
prefix_of (Name f) = none
prefix_of (Symbol n) = prefix_symbol n

-- the node of a binary operator: the first eighteen symbols are operators of values, then `&&` and `||`
abbrev pub infix_tree : ℕ → ℕ → Tree → Tree → Tree
infix_tree n p t u = cond (ltb n 18) (binary p (get_or binary_ops n B.Power) t u) (logic p (eqb n 19) t u)

-- the arguments of a function, in order
pub data Arguments : Type 0 where
  one : Tree → Arguments
  more : Tree → Arguments → Arguments

abbrev pub argument : ℕ → Arguments → Tree
argument k (one t) = t
argument zero (more t ts) = t
argument (suc k) (more t ts) = argument k ts

-- what a function makes of arguments that are values: an operation of one, of two, the choice of IF, or the time since one
pub data Callee : Type 0 where
  of_one : UnaryOp → Callee
  of_two : BinaryOp → Callee
  of_choice : Callee
  of_since : Callee

-- what stands between a function's parentheses: values; nothing; a first cell and a count; or a value before these
pub data Form : Type 0 where
  plain : Callee → Form
  clock : Form
  ranged : TotalOp → Form
  matched : MatchOp → Form

abbrev pub form_of : Function → Form
form_of Abs = plain (of_one U.Abs)
form_of ToReal = plain (of_one U.ToReal)
form_of ToInt = plain (of_one U.Trunc)
form_of Trunc = plain (of_one U.Trunc)
form_of Round = plain (of_one U.Round)
form_of Frac = plain (of_one U.Frac)
form_of Max = plain (of_two (B.Choice Choose.Max))
form_of Min = plain (of_two (B.Choice Choose.Min))
form_of If = plain of_choice
form_of TickMs = clock
form_of Since = plain of_since
form_of (Total o) = ranged o
form_of (Match o) = matched o

-- how many arguments after the first
abbrev pub more_arguments : Callee → ℕ
more_arguments (of_one o) = 0
more_arguments (of_two o) = 1
more_arguments of_choice = 2
more_arguments of_since = 0

-- the node of a call
abbrev pub call_tree : Callee → ℕ → Arguments → Tree
call_tree (of_one o) p ts = unary p o (argument 0 ts)
call_tree (of_two o) p ts = binary p o (argument 0 ts) (argument 1 ts)
call_tree of_choice p ts = choice p (argument 0 ts) (argument 1 ts) (argument 2 ts)
call_tree of_since p ts = since p (argument 0 ts)
