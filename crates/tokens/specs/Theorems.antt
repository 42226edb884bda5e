-- What a reader of the tokens wants to know of `scan`, in the words of paper 01; proofs/Theorems.antt proves the record. So a reader believes the classes of
-- bytes, the table of symbols, `word_token` and `numeral_of`, and no position and no fuel.
use Rattle.std.specs.Prelude.{◌≡◌, Bool, true, false, List, [], ◌∷◌, ◌++◌, ℕ, ◌+◌, ◌≤◌, ◌<◌, Float, length, Result, Ok, Err}
use Rattle.reals.specs.Rounding.{Rounds}
use Rattle.literals.specs.Literals.{scaled_decimal}
use Rattle.values.specs.declared.Value.TheVariants.{Real}
use Rattle.memory.specs.Names.{is_digit}
use Rattle.tokens.specs.declared.Token.{Token}
use Rattle.tokens.specs.declared.Token.TheVariants.{Number, Symbol}
use Rattle.tokens.specs.Bytes.{is_letter, is_space, is_word, is_run, all}
use Rattle.tokens.specs.Symbols.{symbol_count, symbol_bytes}
use Rattle.tokens.specs.Numerals.{decimal_digits, is_sign, literal_number, literal_scale, numeral_of}
use Rattle.tokens.specs.Words.{word_token}
use Rattle.words.specs.Ascii.{byte}
use Rattle.tokens.specs.Scan.{Scan, tokens, wrong, cons_token, scan_from, scan}

-- the first byte is of the class
pub data Starts (class : ℕ → Bool) : List ℕ → Type 0 where
  first : {c : ℕ} {cs : List ℕ} → class c ≡ true → Starts class (c ∷ cs)

-- there is no first byte, or it is not of the class
pub data Stops (class : ℕ → Bool) : List ℕ → Type 0 where
  nothing : Stops class []
  other : {c : ℕ} {cs : List ℕ} → class c ≡ false → Stops class (c ∷ cs)

-- "the longest run of .. that starts with .." at the front of a text is w, and r is left
pub record LongestRun (start class : ℕ → Bool) (w r : List ℕ) : Type 0 where
  pub starts : Starts start w
  pub every : all class w ≡ true
  pub stops : Stops class r

-- "digits, or digits dot digits": what may stand before an exponent
pub data Mantissa : List ℕ → Type 0 where
  whole : (ds : List ℕ) → decimal_digits ds ≡ true → Mantissa ds
  dotted : (ds ps : List ℕ) → decimal_digits ds ≡ true → decimal_digits ps ≡ true → Mantissa (ds ++ (byte "." ∷ ps))

-- The numeral's run at the front of a text: the longest run of letters, digits and dots that starts with a digit. Where it is a mantissa and `E`, and a
-- sign comes next, it goes on past the sign.
pub data NumeralRun : List ℕ → List ℕ → Type 0 where
  plain : {w r : List ℕ} → LongestRun is_digit is_run w r → ((m : List ℕ) → Mantissa m → w ≡ m ++ (byte "E" ∷ []) → Stops is_sign r) → NumeralRun w r
  past_sign : {r : List ℕ} (m : List ℕ) (c : ℕ) (v : List ℕ) → Mantissa m → is_sign c ≡ true → all is_run v ≡ true → Stops is_run r → NumeralRun
      (m ++ (byte "E" ∷ c ∷ v)) r

-- the symbol n stands at the front of a text
abbrev pub Matches : ℕ → List ℕ → Type 0
Matches n s = (r : List ℕ) × (s ≡ symbol_bytes n ++ r)

-- "Operators take the longest match": the symbol n before r, and no longer one begins there
pub record LongestMatch (n : ℕ) (r : List ℕ) : Type 0 where
  pub known : n < symbol_count
  pub most : (m : ℕ) → m < symbol_count → Matches m (symbol_bytes n ++ r) → length (symbol_bytes m) ≤ length (symbol_bytes n)

-- the bytes w, before r, are the longest that belong together, and what they are: a token, or none and its answer
pub data LongestLexeme (w r : List ℕ) : Result Token ℕ → Type 0 where
  word : LongestRun is_letter is_word w r → LongestLexeme w r (word_token w)
  numeral : NumeralRun w r → LongestLexeme w r (numeral_of w)
  symbol : (n : ℕ) → w ≡ symbol_bytes n → LongestMatch n r → LongestLexeme w r (Ok (Symbol n))
  -- 4, "bytes that form no token": a byte that is no blank and starts no word, numeral or symbol
  stray : (c : ℕ) → w ≡ c ∷ [] → is_space c ≡ false → is_letter c ≡ false → is_digit c ≡ false
      → ((n : ℕ) → n < symbol_count → Matches n (c ∷ r) → ⊥) → LongestLexeme w r (Err 4)

-- "Spaces and tabs separate."
abbrev pub Blank : List ℕ → Type 0
Blank b = all is_space b ≡ true

-- The text s, from the place p on, is blanks and tokens in order and nothing else, each token with the place of its first byte. Or it is so up to the first
-- bytes that are no token: "4, 5, 6 over the whole text, the smallest place first".
pub data Scans : ℕ → List ℕ → Scan → Type 0 where
  end : {p : ℕ} {s : List ℕ} → Blank s → Scans p s (tokens [])
  token : {p : ℕ} {s : List ℕ} {t : Token} {z : Scan} (b w r : List ℕ) → s ≡ b ++ (w ++ r) → Blank b → LongestLexeme w r (Ok t)
      → Scans (p + length b + length w) r z → Scans p s (cons_token (record { token = t; place = p + length b }) z)
  stop : {p : ℕ} {s : List ℕ} {a : ℕ} (b w r : List ℕ) → s ≡ b ++ (w ++ r) → Blank b → LongestLexeme w r (Err a) → Scans p s (wrong a (p + length b))

pub record TokenTheorems : Type 0 where
  -- every text scans so, to one list of tokens or to one answer and place
  pub scans : (s : List ℕ) → Scans 0 s (scan s)
  pub only : (s : List ℕ) (z : Scan) → Scans 0 s z → z ≡ scan s
  -- a real literal is its decimal, rounded once: the nearest single, ties to even
  pub real_literal : (w : List ℕ) (x : Float) → numeral_of w ≡ Ok (Number (Real x)) → Rounds (scaled_decimal (literal_number w) (literal_scale w)) x
  -- the scan never runs out of fuel: more of it gives the same
  pub enough : (f : ℕ) (s : List ℕ) → length s < f → scan_from f s 0 ≡ scan s
