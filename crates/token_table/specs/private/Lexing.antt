-- Only for the contracts of this crate's private functions: a lexeme as a word without its place and an end, and parts of numerals that were read at a
-- position.
use Rattle.std.specs.Prelude.{◌≡◌, true, false, cond, List, ◌∷◌, ◌++◌, ℕ, ◌+◌, ◌≤◌, ◌<◌, min, eqb, length, get_or, drop, Result, Ok, Err}
use Rattle.memory.specs.Names.{is_digit, all_digits, digits_of, decimal_value, decimal_limit}
use Rattle.tokens.specs.declared.Token.{Token}
use Rattle.tokens.specs.Bytes.{is_word}
use Rattle.tokens.specs.Numerals.{non_empty, decimal_digits}
use Rattle.tokens.specs.Symbols.{symbol_count, symbol_bytes}
use Rattle.tokens.specs.Scan.{Lexeme, Found, Wrong}
use Rattle.words.specs.Ascii.{byte}
use Rattle.token_table.specs.declared.numerals.Mantissa.{Mantissa}
use Rattle.token_table.specs.private.Table.{pack_fields, pack_token}

-- the word of a judgement: an answer has class 0
abbrev pub scanned_word : Result Token ℕ → ℕ
scanned_word (Ok t) = pack_token t 0
scanned_word (Err a) = pack_fields 0 0 a 0

-- the word of a lexeme, and where it ends if it is a token
pub data Lexes : Lexeme → ℕ → ℕ → Type 0 where
  found : (t : Token) (p e : ℕ) → Lexes (Found t p e) (pack_token t 0) e
  wrong : (a p e : ℕ) → Lexes (Wrong a p) (pack_fields 0 0 a 0) e

-- a symbol and how many bytes it has
pub record SymbolSize (n m : ℕ) : Type 0 where
  pub symbol : n < symbol_count
  pub few : m < 4
  pub size : m ≡ length (symbol_bytes n)

-- a mantissa at a position, read from the text: it has the digits ds, and ps behind a dot, and no more than that
pub record MantissaAt (s : List ℕ) (at : ℕ) (m : Mantissa) : Type 0 where
  pub bytes : List ℕ
  pub ds : List ℕ
  pub ps : List ℕ
  pub form : bytes ≡ cond (non_empty ps) (ds ++ (byte "." ∷ ps)) ds
  pub digits : decimal_digits ds ≡ true
  pub part : all_digits ps ≡ true
  pub splits : drop at s ≡ bytes ++ drop m.end s
  pub ends : m.end ≡ at + length bytes
  pub within : m.end ≤ length s
  pub value : m.value ≡ min (decimal_value (ds ++ ps)) decimal_limit
  pub count : m.digits ≡ length (ds ++ ps)
  pub places : m.places ≡ length ps

-- digits at a position, and a letter behind them that goes on with no decimal and no real literal
pub record OtherNumeral (s : List ℕ) (at : ℕ) : Type 0 where
  pub within : at < length s
  pub starts : is_digit (get_or s at 0) ≡ true
  pub next : is_word (get_or (drop at s) (length (digits_of (drop at s))) 0) ≡ true
  pub no_exponent : eqb (get_or (drop at s) (length (digits_of (drop at s))) 0) (byte "E") ≡ false
