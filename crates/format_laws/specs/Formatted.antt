-- A formula written out from its tree (paper 02, request 10): "an operand that is itself a binary operation is enclosed unless it is the left operand of an
-- operator of the same group; a unary operator's binary operand is enclosed; redundant parentheses go; literals stay as typed; one space stands on either side
-- of a binary operator and after a comma, none elsewhere".
use Rattle.std.specs.Prelude.{Bool, true, false, not, ◌||◌, cond, List, [], ◌∷◌, ◌++◌, ℕ, suc, ◌-◌, max, eqb, take, drop}
use Rattle.words.specs.Ascii.{byte, ascii}
use Rattle.operators.specs.declared.UnaryOp.{UnaryOp}
use Rattle.operators.specs.declared.UnaryOp.TheVariants as U
use Rattle.operators.specs.declared.BinaryOp.{BinaryOp}
use Rattle.operators.specs.declared.BinaryOp.TheVariants as B
use Rattle.operators.specs.Tables.{binary_number}
use Rattle.tokens.specs.declared.Function.TheVariants.{TickMs, Total, Match}
use Rattle.tokens.specs.Symbols.{symbol_bytes, symbol_of}
use Rattle.tokens.specs.Words.{name_of}
use Rattle.tokens.specs.Scan.{Lexeme, Found, Wrong, End, lexeme_of, lexeme_at}
use Rattle.grammar.specs.Tree.{Tree, literal, cell, indexed, unary, binary, logic, choice, tick, since, total, matching}
use Rattle.grammar.specs.Symbols.{group_number, minus, tilde, bang}
use Rattle.lines.specs.Printing.{letter_byte, cell_name}

-- ---- what is typed, and stays

-- the bytes of a lexeme of the text s
abbrev pub lexeme_bytes : List ℕ → Lexeme → List ℕ
lexeme_bytes s (Found t p e) = take (e - p) (drop p s)
lexeme_bytes s (Wrong a p) = []
lexeme_bytes s End = []

-- the bytes of the token that stands at the place p of s
unfoldable pub lexeme : List ℕ → ℕ → List ℕ
unfolding lexeme_of
lexeme s p = lexeme_bytes s (lexeme_at s p)

-- ---- operators

-- an operator of values is written as a symbol, given by its number, or as a function that is called
pub data Notation : Type 0 where
  symbol : ℕ → Notation
  function : Notation

abbrev pub unary_notation : UnaryOp → Notation
unary_notation U.Neg = symbol minus
unary_notation U.Complement = symbol tilde
unary_notation U.Not = symbol bang
unary_notation U.Abs = function
unary_notation U.ToReal = function
unary_notation U.Trunc = function
unary_notation U.Round = function
unary_notation U.Frac = function

-- MAX and MIN are calls, though they are binary nodes
abbrev pub binary_notation : BinaryOp → Notation
binary_notation B.Power = symbol (binary_number B.Power)
binary_notation (B.Arith o) = symbol (binary_number (B.Arith o))
binary_notation (B.Shift o) = symbol (binary_number (B.Shift o))
binary_notation (B.Compare o) = symbol (binary_number (B.Compare o))
binary_notation (B.Bits o) = symbol (binary_number (B.Bits o))
binary_notation (B.Choice o) = function

-- the symbol's number of `&&` for false, of `||` for true
abbrev pub logic_symbol : Bool → ℕ
logic_symbol false = symbol_of (ascii "&&")
logic_symbol true = symbol_of (ascii "||")

abbrev pub notation_group : Notation → ℕ
notation_group (symbol n) = group_number n
notation_group function = 0

-- the group of the infix operator at the top of a tree; 0 for every other node
abbrev pub top : Tree → ℕ
top (literal p v) = 0
top (cell b i) = 0
top (indexed b t) = 0
top (unary p o t) = 0
top (binary p o t u) = notation_group (binary_notation o)
top (logic p d t u) = group_number (logic_symbol d)
top (choice p c t u) = 0
top tick = 0
top (since p t) = 0
top (total p o b i n) = 0
top (matching p o t b i n) = 0

-- ---- the text

abbrev pub parenthesized : Bool → List ℕ → List ℕ
parenthesized c x = cond c (ascii "(" ++ (x ++ ascii ")")) x

-- of operands, by their tops: "an operand that is itself a binary operation is enclosed", "a unary operator's binary operand is enclosed"
abbrev pub is_infix : ℕ → Bool
is_infix g = not (eqb g 0)

-- "unless it is the left operand of an operator of the same group"; h is the operator's
abbrev pub is_other_infix : ℕ → ℕ → Bool
is_other_infix h g = not (eqb g 0 || eqb g h)

-- the symbol n before an operand x with the top g
abbrev pub prefix_text : ℕ → ℕ → List ℕ → List ℕ
prefix_text n g x = symbol_bytes n ++ parenthesized (is_infix g) x

-- the symbol n between x with the top g and y with the top h: "one space stands on either side of a binary operator"
abbrev pub infix_text : ℕ → ℕ → List ℕ → ℕ → List ℕ → List ℕ
infix_text n g x h y = parenthesized (is_other_infix (group_number n) g) x ++ (ascii " " ++ (symbol_bytes n ++ (ascii " " ++ parenthesized (is_infix h) y)))

-- "and after a comma"
abbrev pub separated : List (List ℕ) → List ℕ
separated [] = []
separated (x ∷ []) = x
separated (x ∷ y ∷ ys) = x ++ (ascii ", " ++ separated (y ∷ ys))

-- a name and what stands between its parentheses
abbrev pub call_text : List ℕ → List (List ℕ) → List ℕ
call_text name xs = name ++ (ascii "(" ++ (separated xs ++ ascii ")"))

abbrev pub unary_text : Notation → List ℕ → ℕ → List ℕ → List ℕ
unary_text (symbol n) name g x = prefix_text n g x
unary_text function name g x = call_text name (x ∷ [])

abbrev pub binary_text : Notation → List ℕ → ℕ → List ℕ → ℕ → List ℕ → List ℕ
binary_text (symbol n) name g x h y = infix_text n g x h y
binary_text function name g x h y = call_text name (x ∷ y ∷ [])

-- the text of a tree, whose literals, names and counts stand in s; cells, bank letters, TICKms and the totals have one spelling
unfoldable pub formatted : List ℕ → Tree → List ℕ
unfolding lexeme group_number
formatted s (literal p v) = lexeme s p
formatted s (cell b i) = cell_name b i
formatted s (indexed b t) = letter_byte b ∷ (ascii "[" ++ (formatted s t ++ ascii "]"))
formatted s (unary p o t) = unary_text (unary_notation o) (lexeme s p) (top t) (formatted s t)
formatted s (binary p o t u) = binary_text (binary_notation o) (lexeme s p) (top t) (formatted s t) (top u) (formatted s u)
formatted s (logic p d t u) = infix_text (logic_symbol d) (top t) (formatted s t) (top u) (formatted s u)
formatted s (choice p c t u) = call_text (lexeme s p) (formatted s c ∷ formatted s t ∷ formatted s u ∷ [])
formatted s tick = call_text (name_of TickMs) []
formatted s (since p t) = call_text (lexeme s p) (formatted s t ∷ [])
formatted s (total p o b i n) = call_text (name_of (Total o)) (cell_name b i ∷ lexeme s p ∷ [])
formatted s (matching p o t b i n) = call_text (name_of (Match o)) (formatted s t ∷ cell_name b i ∷ lexeme s p ∷ [])

-- ---- its levels

-- how many brackets are open behind the byte c, d before it
abbrev pub open_behind : ℕ → ℕ → ℕ
open_behind d c = cond (eqb c (byte "(") || eqb c (byte "[")) (suc d) (cond (eqb c (byte ")") || eqb c (byte "]")) (d - 1) d)

-- the most open at once, d before the bytes
abbrev pub levels_from : ℕ → List ℕ → ℕ
levels_from d [] = d
levels_from d (c ∷ cs) = max d (levels_from (open_behind d c) cs)

-- the most `(` and `[` open at once in the bytes x
abbrev pub levels : List ℕ → ℕ
levels x = levels_from 0 x

-- ---- the tree without its places

unfoldable pub without_places : Tree → Tree
without_places (literal p v) = literal 0 v
without_places (cell b i) = cell b i
without_places (indexed b t) = indexed b (without_places t)
without_places (unary p o t) = unary 0 o (without_places t)
without_places (binary p o t u) = binary 0 o (without_places t) (without_places u)
without_places (logic p d t u) = logic 0 d (without_places t) (without_places u)
without_places (choice p c t u) = choice 0 (without_places c) (without_places t) (without_places u)
without_places tick = tick
without_places (since p t) = since 0 (without_places t)
without_places (total p o b i n) = total 0 o b i n
without_places (matching p o t b i n) = matching 0 o (without_places t) b i n

-- ---- what of the text it keeps: the spellings of the literals, names and counts of a tree, in order; a name only where the tree has its place

abbrev pub named_before : Notation → List ℕ → List (List ℕ) → List (List ℕ)
named_before (symbol n) name xs = xs
named_before function name xs = name ∷ xs

unfoldable pub spellings : List ℕ → Tree → List (List ℕ)
unfolding lexeme
spellings s (literal p v) = lexeme s p ∷ []
spellings s (cell b i) = []
spellings s (indexed b t) = spellings s t
spellings s (unary p o t) = named_before (unary_notation o) (lexeme s p) (spellings s t)
spellings s (binary p o t u) = named_before (binary_notation o) (lexeme s p) (spellings s t ++ spellings s u)
spellings s (logic p d t u) = spellings s t ++ spellings s u
spellings s (choice p c t u) = lexeme s p ∷ (spellings s c ++ (spellings s t ++ spellings s u))
spellings s tick = []
spellings s (since p t) = lexeme s p ∷ spellings s t
spellings s (total p o b i n) = lexeme s p ∷ []
spellings s (matching p o t b i n) = spellings s t ++ lexeme s p ∷ []
