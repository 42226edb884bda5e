-- Words and numerals: a spelling that stands in one text stands before any bytes that do not go on with it, and `lexeme` finds it.
use Rattle.std.specs.Prelude.{Result, Ok}
use mathlib.Core.Path.{◌≡◌, refl, sym, ap, subst, ◌∙◌}
use mathlib.Core.Bool.{Bool, true, false, ◌||◌}
use mathlib.Core.List.{List, ◌∷◌, ◌++◌}
use Prim.Native.Nat.{ℕ, ◌+◌, ◌-◌}
use native.Mathlib.Omega.{arith}
use native.Mathlib.Nat.{add-zero}
use lib.Dec.{eqb}
use lib.ListN.{length, take, drop}
use lib.Seq.{take-append_seam}
use Rattle.values.proofs.convert.Limits.{or-false as split-or}
use Rattle.words.specs.Ascii.{byte}
use Rattle.memory.specs.Names.{is_digit}
use Rattle.memory.proofs.names.Decimals.{digit-range}
use Rattle.tokens.specs.declared.Token.{Token}
use Rattle.tokens.specs.declared.Token.TheVariants.{Number, Cell, Letter, Name, Symbol}
use Rattle.tokens.specs.Bytes.{is_letter, is_space, is_word, is_run, run_len, all}
use Rattle.tokens.specs.Numerals.{is_sign, numeral_of}
use Rattle.tokens.specs.Words.{word_token}
use Rattle.tokens.specs.Scan.{Found, lexeme_of, blanks, lexeme_at}
use Rattle.tokens.specs.Scan as Scan
use Rattle.tokens.specs.Theorems.{Starts, first, Stops, nothing, other, LongestRun, Mantissa, NumeralRun, plain, past_sign, LongestLexeme, word}
use Rattle.tokens.specs.Theorems.{numeral, symbol, stray}
use Rattle.tokens.proofs.Tests.{no}
use Rattle.tokens.proofs.Runs.{run_length}
use Rattle.tokens.proofs.numerals.Runs.{run-starts, run_len_lem}
use Rattle.tokens.proofs.Theorems.{letter-range, no-space, letter-lexeme, digit-lexeme, longer-start}
use Rattle.format_laws.specs.Formatted.{lexeme_bytes, lexeme}
use Rattle.format_theorems.proofs.Words.{Spelling, word-spelling, numeral-spelling}
use mathlib.Core.List.{[]}

-- ---- spellings
-- a byte with which a word or a numeral might go on
abbrev pub continues : ℕ → Bool
continues c = is_run c || is_sign c

abbrev pub is_no_symbol : Token → Bool
is_no_symbol (Number v) = true
is_no_symbol (Cell b i) = true
is_no_symbol (Letter b) = true
is_no_symbol (Name f) = true
is_no_symbol (Symbol n) = false

-- the bytes w are the token x wherever nothing goes on with them
pub data Spells (x : Token) : List ℕ → Type 0 where
  as-word : {w : List ℕ} → Starts is_letter w → all is_word w ≡ true → word_token w ≡ Ok x → Spells x w
  as-run : {w : List ℕ} → Starts is_digit w → all is_run w ≡ true → numeral_of w ≡ Ok x → Spells x w
  as-signed : (m : List ℕ) (c : ℕ) (v : List ℕ) → Mantissa m → is_sign c ≡ true → all is_run v ≡ true → numeral_of (m ++ (byte "E" ∷ c ∷ v)) ≡ Ok x
      → Spells x (m ++ (byte "E" ∷ c ∷ v))

of-run : {x : Token} {w r : List ℕ} → NumeralRun w r → numeral_of w ≡ Ok x → Spells x w
of-run (plain h m) e = as-run h.starts h.every e
of-run (past_sign m c v h s a t) e = as-signed m c v h s a e

pub spells : {x : Token} {w r : List ℕ} {j : (Result Token ℕ)} → LongestLexeme w r j → j ≡ Ok x → is_no_symbol x ≡ true → Spells x w
spells (word h) e n = as-word h.starts h.every e
spells (numeral h) e n = of-run h e
spells {x} (symbol m q h) e n = let s : x ≡ Symbol m = cc in no (ap is_no_symbol (sym s) ∙ n)
spells (stray c q s l d k) e n = let z : ◌≡◌ {A = ℕ} 0 1 = cc in absurd (omega arith)

run-stops : {r : List ℕ} → Stops continues r → Stops is_run r
run-stops nothing = nothing
run-stops (other {c = c} e) = other (split-or (is_run c) (is_sign c) e).0

sign-stops : {r : List ℕ} → Stops continues r → Stops is_sign r
sign-stops nothing = nothing
sign-stops (other {c = c} e) = other (split-or (is_run c) (is_sign c) e).1

word-stops : {r : List ℕ} → Stops continues r → Stops is_word r
word-stops nothing = nothing
word-stops (other {c = c} e) = other (split-or (is_word c) (eqb c (byte ".")) (split-or (is_run c) (is_sign c) e).0).0

judged-as : {w r : List ℕ} {j k : (Result Token ℕ)} → j ≡ k → LongestLexeme w r j → LongestLexeme w r k
judged-as {w} {r} e h = subst (LongestLexeme w r) e h

pub spelled-before : {x : Token} {w : List ℕ} (r : List ℕ) → Spells x w → Stops continues r → LongestLexeme w r (Ok x)
spelled-before r (as-word s a e) t = judged-as e (word (record { starts = s; every = a; stops = word-stops t }))
spelled-before r (as-run s a e) t = judged-as e (numeral (plain (record { starts = s; every = a; stops = run-stops t }) (λ m h q. sign-stops t)))
spelled-before r (as-signed m c v h s a e) t = judged-as e (numeral (past_sign m c v h s a (run-stops t)))

pub spelling : {x : Token} {w : List ℕ} → Spells x w → Spelling w (Ok x)
spelling (as-word {w = w} s a e) = subst (Spelling w) e (word-spelling w)
spelling (as-run {w = w} s a e) = subst (Spelling w) e (numeral-spelling w)
spelling (as-signed m c v h s a e) = subst (Spelling (m ++ (byte "E" ∷ c ∷ v))) e (numeral-spelling (m ++ (byte "E" ∷ c ∷ v)))

-- ---- `lexeme` finds them
word-lexeme : (w r : List ℕ) (p : ℕ) → LongestRun is_letter is_word w r → lexeme_of (w ++ r) p ≡ Scan.lexeme p (length w) (word_token w)
word-lexeme w r p h = go w h.starts h.every
  where
    go : (w : List ℕ) → Starts is_letter w → all is_word w ≡ true → lexeme_of (w ++ r) p ≡ Scan.lexeme p (length w) (word_token w)
    go [] x'' a = elim x'' [ ]
    go (c ∷ cs) (first l) a =
        letter-lexeme c (cs ++ r) p l
        ∙ ap (λ (n : ℕ). Scan.lexeme p n (word_token (take n ((c ∷ cs) ++ r)))) (run_length is_word (c ∷ cs) r a h.stops)
        ∙ ap (λ (v : List ℕ). Scan.lexeme p (length (c ∷ cs)) (word_token v)) (take-append_seam (c ∷ cs) r)

numeral-lexeme : (w r : List ℕ) (p : ℕ) → NumeralRun w r → lexeme_of (w ++ r) p ≡ Scan.lexeme p (length w) (numeral_of w)
numeral-lexeme w r p h =
    digit-lexeme (w ++ r) p (longer-start w r (run-starts h))
    ∙ ap (λ (n : ℕ). Scan.lexeme p n (numeral_of (take n (w ++ r)))) (run_len_lem h)
    ∙ ap (λ (v : List ℕ). Scan.lexeme p (length w) (numeral_of v)) (take-append_seam w r)

lexeme-of : {w r : List ℕ} {j : (Result Token ℕ)} {x : Token} → LongestLexeme w r j → j ≡ Ok x → is_no_symbol x ≡ true → (p : ℕ)
    → lexeme_of (w ++ r) p ≡ Found x p (p + length w)
lexeme-of {w} {r} (word h) e n p = word-lexeme w r p h ∙ ap (Scan.lexeme p (length w)) e
lexeme-of {w} {r} (numeral h) e n p = numeral-lexeme w r p h ∙ ap (Scan.lexeme p (length w)) e
lexeme-of {x = x} (symbol m q h) e n p = let s : x ≡ Symbol m = cc in no (ap is_no_symbol (sym s) ∙ n)
lexeme-of (stray c q s l d k) e n p = let z : ◌≡◌ {A = ℕ} 0 1 = cc in absurd (omega arith)

-- no word and no numeral begins with a blank
front-letter : (w r : List ℕ) → Starts is_letter w → run_len is_space (w ++ r) ≡ 0
front-letter [] r x' = elim x' [ ]
front-letter (c ∷ cs) r (first l) = rw (no-space c (omega (arith, letter-range c l)))

front-digit : (w r : List ℕ) → Starts is_digit w → run_len is_space (w ++ r) ≡ 0
front-digit [] r x' = elim x' [ ]
front-digit (c ∷ cs) r (first d) = rw (no-space c (omega (arith, digit-range c d)))

front : {w r : List ℕ} {j : (Result Token ℕ)} {x : Token} → LongestLexeme w r j → j ≡ Ok x → is_no_symbol x ≡ true → run_len is_space (w ++ r) ≡ 0
front {w} {r} (word h) e n = front-letter w r h.starts
front {w} {r} (numeral h) e n = front-digit w r (run-starts h)
front {x = x} (symbol m q h) e n = let s : x ≡ Symbol m = cc in no (ap is_no_symbol (sym s) ∙ n)
front (stray c q s l d k) e n = let z : ◌≡◌ {A = ℕ} 0 1 = cc in absurd (omega arith)

pub lexeme-is : (s : List ℕ) (p : ℕ) (w r : List ℕ) {x : Token} → LongestLexeme w r (Ok x) → is_no_symbol x ≡ true → drop p s ≡ w ++ r → lexeme s p ≡ w
unfolding lexeme
lexeme-is s p w r {x} h n q =
    let b : blanks s p ≡ 0 = ap (run_len is_space) q ∙ front h refl n in
    let at : lexeme_at s p ≡ Found x p (p + length w) =
    ap (λ (k : ℕ). lexeme_of (drop (p + k) s) (p + k)) b ∙ ap (λ (k : ℕ). lexeme_of (drop k s) k) (add-zero p) ∙ ap (λ (l : List ℕ). lexeme_of l p) q
    ∙ lexeme-of h refl n p in
    let size : (p + length w) - p ≡ length w = omega arith in
    ap (lexeme_bytes s) at ∙ ap (λ (k : ℕ). take k (drop p s)) size ∙ ap (take (length w)) q ∙ take-append_seam w r
