-- Words (paper 01): "a function name, a bank letter, or a bank letter and a decimal number without a leading zero (`0` itself is good). Any other word is
-- 6. Case counts."
use Rattle.std.specs.Prelude.{cond, List, [], ◌∷◌, ◌++◌, map, ℕ, length, get_or, Option, Result, Some, None, Ok, Err}
use Rattle.values.specs.declared.ChoiceOp.TheVariants as Choose
use Rattle.values.specs.declared.CompareOp.{CompareOp}
use Rattle.values.specs.declared.CompareOp.TheVariants as Compare
use Rattle.memory.specs.Names.{letter_bank, named_rule}
use Rattle.totals.specs.declared.TotalOp.{TotalOp}
use Rattle.totals.specs.declared.TotalOp.TheVariants as T'
use Rattle.totals.specs.declared.MatchOp.{MatchOp}
use Rattle.totals.specs.declared.MatchOp.TheVariants as M'
use Rattle.totals.specs.Numbers.{total_ops, match_ops}
use Rattle.tokens.specs.declared.Function.{Function}
use Rattle.tokens.specs.declared.Function.TheVariants.{Abs, ToReal, ToInt, Trunc, Round, Frac, Max, Min, If, TickMs, Since, Total, Match}
use Rattle.tokens.specs.declared.Token.TheVariants.{Cell, Letter as LetterToken, Name}
use Rattle.tokens.specs.Symbols.{equal_bytes}
use Rattle.words.specs.Ascii.{ascii}
use Rattle.memory.specs.declared.Bank.{Bank}
use Rattle.tokens.specs.declared.Token.{Token}

-- totals over a run of cells (paper 02, Ask 2): "SUMR, AVGR, MAXR, MINR and the COUNTIF and SUMIF families of the page", each name of a family with its
-- comparison
abbrev pub compare_name : CompareOp → List ℕ
compare_name Compare.Eq = ascii "EQ"
compare_name Compare.Ne = ascii "NE"
compare_name Compare.Ge = ascii "GE"
compare_name Compare.Gt = ascii "GT"
compare_name Compare.Le = ascii "LE"
compare_name Compare.Lt = ascii "LT"

abbrev pub total_name : TotalOp → List ℕ
total_name T'.Sum = ascii "SUMR"
total_name T'.Average = ascii "AVGR"
total_name (T'.Choice Choose.Max) = ascii "MAXR"
total_name (T'.Choice Choose.Min) = ascii "MINR"

abbrev pub match_name : MatchOp → List ℕ
match_name (M'.Count o) = ascii "COUNTIF" ++ compare_name o
match_name (M'.Sum o) = ascii "SUMIF" ++ compare_name o

-- the name of a function
abbrev pub name_of : Function → List ℕ
name_of Abs = ascii "ABS"
name_of ToReal = ascii "TOREAL"
name_of ToInt = ascii "TOINT"
name_of Trunc = ascii "TRUNC"
name_of Round = ascii "ROUND"
name_of Frac = ascii "FRAC"
name_of Max = ascii "MAX"
name_of Min = ascii "MIN"
name_of If = ascii "IF"
name_of TickMs = ascii "TICKms"
name_of Since = ascii "SINCE"
name_of (Total o) = total_name o
name_of (Match o) = match_name o

abbrev pub cell_word : Option (Bank × ℕ) → Result Token ℕ
cell_word (Some (b, i)) = Ok (Cell b i)
cell_word None = Err 6

abbrev pub letter_word : Option Bank → Result Token ℕ
letter_word (Some b) = Ok (LetterToken b)
letter_word None = Err 6

-- no function's name
unfoldable pub other_word : List ℕ → Result Token ℕ
unfolding letter_bank named_rule
other_word [] = Err 6
other_word (c ∷ []) = letter_word (letter_bank c)
other_word (c ∷ d ∷ cs) = cell_word (named_rule (c ∷ d ∷ cs))

-- the function that has the name, among these
abbrev pub function_named : List Function → List ℕ → Result Token ℕ → Result Token ℕ
function_named [] cs other = other
function_named (f ∷ fs) cs other = cond (equal_bytes (name_of f) cs) (Ok (Name f)) (function_named fs cs other)

abbrev pub functions : List Function
functions = Abs ∷ ToReal ∷ ToInt ∷ Trunc ∷ Round ∷ Frac ∷ Max ∷ Min ∷ If ∷ TickMs ∷ Since ∷ (map Total total_ops ++ map Match match_ops)

abbrev pub function_count : ℕ
function_count = length functions

-- the places in the list of the first total, and of the first of the families
abbrev pub first_total : ℕ
first_total = 11

abbrev pub first_match : ℕ
first_match = 15

-- the function of a number, which is its place in the list
abbrev pub function_at : ℕ → Function
function_at n = get_or functions n Abs

unfoldable pub word_token : List ℕ → Result Token ℕ
unfolding other_word
word_token cs = function_named functions cs (other_word cs)
