-- For the layers above: tokens with their places as words of 64 bits, and the tokens that a list of words holds. A formula's meaning does not rest on it:
-- the reader's and the compiler's contracts speak of the text.
use Rattle.std.specs.Prelude.{◌≡◌, cond, List, [], ◌∷◌, ℕ, ◌+◌, ◌*◌, ◌/◌, ◌%◌, ◌^◌, ◌<◌, T, eqb, ltb, ℤ, get_or, drop, Float, Option, Result, Some, None, Ok, Err, ⊤}
use Rattle.std.specs.Float.Ieee as Ieee
use Rattle.std.specs.Float.{binary32}
use Rattle.reals.specs.Singles.{Single}
use Rattle.values.specs.declared.Value.TheVariants as Value
use Rattle.values.specs.declared.Outcome.{Outcome}
use Rattle.values.specs.declared.Outcome.TheVariants.{Done, Stopped, WrongKind}
use Rattle.values.specs.Integers.{in_range}
use Rattle.values.specs.Patterns.{low_bits, signed_of}
use Rattle.memory.specs.declared.Bank.{Bank}
use Rattle.memory.specs.Cells.{real_cell}
use Rattle.memory.specs.Layout.{layout_of}
use Rattle.memory.specs.Numbers.{bank_numbered, bank_number}
use Rattle.totals.specs.Numbers.{total_number, match_number}
use Rattle.tokens.specs.declared.Function.{Function}
use Rattle.tokens.specs.declared.Function.TheVariants.{Abs, ToReal, ToInt, Trunc, Round, Frac, Max, Min, If, TickMs, Since, Total, Match}
use Rattle.tokens.specs.declared.Token.{Token}
use Rattle.tokens.specs.declared.Token.TheVariants.{Number, Cell, Letter, Name, Symbol}
use Rattle.tokens.specs.Symbols.{symbol_count}
use Rattle.tokens.specs.Words.{function_count, first_total, first_match, function_at}
use Rattle.tokens.specs.Scan.{Tok, Scan, tokens, wrong}
use Rattle.token_table.specs.declared.Refusal.{Refusal}
use Rattle.token_table.specs.Refusals.{refusal}

-- a token and its place in the text, or the end of the tokens
pub data Entry : Type 0 where
  Is : Token → ℕ → Entry
  End : Entry

pub data FunctionOf : Type 0 where
  Is : Function → FunctionOf
  Nothing : FunctionOf

-- the functions by number, in the order of `functions`
abbrev pub function_number : Function → ℕ
function_number Abs = 0
function_number ToReal = 1
function_number ToInt = 2
function_number Trunc = 3
function_number Round = 4
function_number Frac = 5
function_number Max = 6
function_number Min = 7
function_number If = 8
function_number TickMs = 9
function_number Since = 10
function_number (Total o) = first_total + total_number o
function_number (Match o) = first_match + match_number o

abbrev pub function_numbered : ℕ → FunctionOf
function_numbered n = cond (ltb n function_count) (FunctionOf.Is (function_at n)) FunctionOf.Nothing

-- ---- a word
-- 8 bits of a class, 8 of an operand, 16 of a place, 32 of a number
abbrev pub pack_fields : ℕ → ℕ → ℕ → ℕ → ℕ
pack_fields class operand number place = class + 256 * operand + 65536 * place + 2 ^ 32 * number

abbrev pub word_class : ℕ → ℕ
word_class w = w % 256

abbrev pub word_operand : ℕ → ℕ
word_operand w = w / 256 % 256

abbrev pub word_place : ℕ → ℕ
word_place w = w / 65536 % 65536

abbrev pub word_number : ℕ → ℕ
word_number w = w / 2 ^ 32

abbrev pub pack_token : Token → ℕ → ℕ
pack_token (Number (Value.Int z)) p = pack_fields 1 0 (low_bits 32 z) p
pack_token (Number (Value.Real x)) p = pack_fields 2 0 (Ieee.to_bits binary32 x) p
pack_token (Cell b i) p = pack_fields 3 (bank_number b) i p
pack_token (Letter b) p = pack_fields 4 (bank_number b) 0 p
pack_token (Name f) p = pack_fields 5 (function_number f) 0 p
pack_token (Symbol n) p = pack_fields 6 n 0 p

-- a real as a cell holds it: the patterns of infinities and NaNs are none
abbrev pub real_entry : Outcome → ℕ → Entry
real_entry (Done v) p = Is (Number v) p
real_entry (Stopped f) p = End
real_entry WrongKind p = End

abbrev pub cell_entry : Option Bank → ℕ → ℕ → Entry
cell_entry (Some b) i p = Is (Cell b i) p
cell_entry None i p = End

abbrev pub letter_entry : Option Bank → ℕ → Entry
letter_entry (Some b) p = Is (Letter b) p
letter_entry None p = End

abbrev pub name_entry : FunctionOf → ℕ → Entry
name_entry (FunctionOf.Is f) p = Is (Name f) p
name_entry FunctionOf.Nothing p = End

unfoldable pub token_of : ℕ → ℕ → ℕ → ℕ → Entry
token_of class operand number p =
    cond (eqb class 1) (Is (Number (Value.Int (signed_of 32 number))) p)
    (cond (eqb class 2) (real_entry (real_cell number) p)
    (cond (eqb class 3) (cell_entry (bank_numbered operand) number p)
    (cond (eqb class 4) (letter_entry (bank_numbered operand) p)
    (cond (eqb class 5) (name_entry (function_numbered operand) p)
    (cond (eqb class 6) (Is (Symbol operand) p)
    End)))))

abbrev pub entry_of : ℕ → Entry
entry_of w = token_of (word_class w) (word_operand w) (word_number w) (word_place w)

-- ---- a list of words
abbrev pub word_at : List ℕ → ℕ → ℕ
word_at s i = get_or s i 0

abbrev pub entry_at : List ℕ → ℕ → Entry
entry_at s i = entry_of (word_at s i)

-- the tokens up to the first word that is none
unfoldable pub listed : List ℕ → List Tok
listed [] = []
listed (w ∷ ws) = elim (entry_of w) [ Is t p ↦ record { token = t; place = p } ∷ listed ws | End ↦ [] ]

-- the tokens from a position of the table on
abbrev pub tokens_from : List ℕ → ℕ → List Tok
tokens_from s i = listed (drop i s)

-- the table holds the tokens of a scan
pub data Fills : Scan → List ℕ → Result ⊤ Refusal → Type 0 where
  filled : {ts : List Tok} {s : List ℕ} → listed s ≡ ts → Fills (tokens ts) s (Ok tt)
  stopped : {a p : ℕ} {s : List ℕ} → Fills (wrong a p) s (Err (refusal a p))

-- ---- words that are no others than those of a text's tokens
pub data Sound : Token → Type 0 where
  int : (z : ℤ) → T (in_range z) → Sound (Number (Value.Int z))
  real : (x : Float) → Single x → Sound (Number (Value.Real x))
  cell : (b : Bank) (i : ℕ) → i < (layout_of b).elements → Sound (Cell b i)
  letter : (b : Bank) → Sound (Letter b)
  name : (f : Function) → Sound (Name f)
  symbol : (n : ℕ) → n < symbol_count → Sound (Symbol n)

pub data TokenWord : ℕ → Type 0 where
  blank : TokenWord 0
  token : (t : Token) (p : ℕ) → Sound t → p < 65536 → TokenWord (pack_token t p)

abbrev pub TokenWords : List ℕ → Type 0
TokenWords s = (i : ℕ) → TokenWord (word_at s i)
