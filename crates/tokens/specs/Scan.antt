-- The tokens of a text with their places, and the first bytes that are none: "4, 5, 6 over the whole text, the smallest place first"; "Place is the byte
-- offset of the token, or for 4 of the bad byte or run."
use Rattle.std.specs.Prelude.{Bool, cond, List, [], ◌∷◌, ℕ, zero, suc, ◌+◌, eqb, length, take, drop, Result, Ok, Err}
use Rattle.memory.specs.Names.{is_digit}
use Rattle.tokens.specs.declared.Token.{Token}
use Rattle.tokens.specs.declared.Token.TheVariants.{Symbol}
use Rattle.tokens.specs.Bytes.{is_letter, is_space, is_word, run_len}
use Rattle.tokens.specs.Symbols.{symbol_count, symbol_bytes, longest}
use Rattle.tokens.specs.Numerals.{numeral_len, numeral_of}
use Rattle.tokens.specs.Words.{word_token}

-- the next token from a position, with its place and where it ends; bytes that are none, with their answer and place; or the text's end
pub data Lexeme : Type 0 where
  Found : Token → ℕ → ℕ → Lexeme
  Wrong : ℕ → ℕ → Lexeme
  End : Lexeme

-- n bytes at a place, judged
abbrev pub lexeme : ℕ → ℕ → Result Token ℕ → Lexeme
lexeme p n (Ok t) = Found t p (p + n)
lexeme p n (Err a) = Wrong a p

-- the longest run of a class, judged by f
abbrev pub run_lexeme : (ℕ → Bool) → (List ℕ → (Result Token ℕ)) → List ℕ → ℕ → Lexeme
run_lexeme test f cs p = lexeme p (run_len test cs) (f (take (run_len test cs) cs))

abbrev pub numeral_lexeme : List ℕ → ℕ → Lexeme
numeral_lexeme cs p = lexeme p (numeral_len cs) (numeral_of (take (numeral_len cs) cs))

abbrev pub symbol_lexeme : ℕ → ℕ → Lexeme
symbol_lexeme p n = cond (eqb n symbol_count) (Wrong 4 p) (Found (Symbol n) p (p + length (symbol_bytes n)))

-- what begins the bytes cs, which are not blank, at the place p
unfoldable pub lexeme_of : List ℕ → ℕ → Lexeme
unfolding word_token
lexeme_of [] p = End
lexeme_of (c ∷ cs) p =
    cond (is_digit c) (numeral_lexeme (c ∷ cs) p)
    (cond (is_letter c) (run_lexeme is_word word_token (c ∷ cs) p)
    (symbol_lexeme p (longest (c ∷ cs))))

abbrev pub blanks : List ℕ → ℕ → ℕ
blanks s at = run_len is_space (drop at s)

-- the next lexeme from a position of the text
abbrev pub lexeme_at : List ℕ → ℕ → Lexeme
lexeme_at s at = lexeme_of (drop (at + blanks s at) s) (at + blanks s at)

-- a token and its place
pub record Tok : Type 0 where
  pub token : Token
  pub place : ℕ

pub data Scan : Type 0 where
  tokens : List Tok → Scan
  wrong : ℕ → ℕ → Scan

abbrev pub cons_token : Tok → Scan → Scan
cons_token t (tokens ts) = tokens (t ∷ ts)
cons_token t (wrong a p) = wrong a p

-- the tokens from a position on, or the first that is none; every token takes a byte, so the text's length is fuel enough
unfoldable pub scan_from : ℕ → List ℕ → ℕ → Scan
unfolding lexeme_of
scan_from zero s at = tokens []
scan_from (suc f) s at = elim (lexeme_at s at) [
  | Found t p e ↦ cons_token (record { token = t; place = p }) (scan_from f s e)
  | Wrong a p ↦ wrong a p
  | End ↦ tokens []
]

abbrev pub scan : List ℕ → Scan
scan s = scan_from (suc (length s)) s 0
