-- For the contracts of private functions: numerals as forms, and what has been printed so far.
use Rattle.std.specs.Prelude.{◌≡◌, cond, List, ◌∷◌, ℕ, ◌+◌, ◌-◌, ◌*◌, ltb, length, Option, Result, Some, None, Ok, Err}
use Rattle.std.proofs.lemmas.List.Edits.{sets}
use Rattle.values.specs.declared.Value.{Value}
use Rattle.values.specs.Patterns.{low_bits}
use Rattle.tokens.specs.declared.Token.{Token}
use Rattle.lines.specs.Printing.{decimal_text}
use Rattle.words.specs.Ascii.{byte}

-- the pattern of a numeral that is an integer
abbrev pub value_form : Value → Option ℕ
value_form (Value.Int z) = Some (low_bits 32 z)
value_form (Value.Real x) = None

-- no other token is one
abbrev pub token_form : Token → Option ℕ
token_form (Token.Number v) = value_form v
token_form (Token.Cell b i) = None
token_form (Token.Letter b) = None
token_form (Token.Name f) = None
token_form (Token.Symbol n) = None

-- bytes that are no token are none either
abbrev pub scanned_form : Result Token ℕ → Option ℕ
scanned_form (Ok t) = token_form t
scanned_form (Err a) = None

-- a text was put at a place; the next place is behind it
pub record Puts (old : List ℕ) (at : ℕ) (new : List ℕ) (next : ℕ) (text : List ℕ) : Type 0 where
  pub bytes : new ≡ sets old at text
  pub end : next ≡ at + length text

-- the integer of a pattern, of which there are 2 * half
abbrev pub half_text : ℕ → ℕ → List ℕ
half_text half n = cond (ltb n half) (decimal_text n) (byte "-" ∷ decimal_text (2 * half - n))
