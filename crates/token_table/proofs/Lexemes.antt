-- What begins at a byte that is not blank, by its class; and a run of bytes that is judged as a whole.
use Rattle.std.specs.Prelude.{Result, Ok, Err}
use mathlib.Core.Path.{◌≡◌, refl, sym, ap, subst, ◌∙◌}
use mathlib.Core.Bool.{Bool, true, false}
use mathlib.Core.List.{List}
use Prim.Native.Nat.{ℕ, ◌+◌, ◌-◌, ◌<◌}
use native.Mathlib.Omega.{arith}
use lib.ListN.{length, get_or, take, drop}
use lib.Seq.{drop-cons}
use borrow.Author.Tests.{lt-leb}
use Rattle.memory.specs.Names.{is_digit}
use Rattle.tokens.specs.Bytes.{is_letter, is_word, run_len}
use Rattle.tokens.specs.Symbols.{longest}
use Rattle.tokens.specs.Words.{word_token}
use Rattle.tokens.specs.Scan.{Lexeme, lexeme, run_lexeme, numeral_lexeme, symbol_lexeme, lexeme_of}
use Rattle.token_table.specs.private.Lexing.{scanned_word, Lexes, found, wrong}
use Rattle.tokens.specs.declared.Token.{Token}

module _ (s : List ℕ) (p : ℕ) (h : p < length s) where
  pub at-digit : is_digit (get_or s p 0) ≡ true → numeral_lexeme (drop p s) p ≡ lexeme_of (drop p s) p
  unfolding lexeme_of
  at-digit d = rw (drop-cons s p 0 h, d)

  pub at-letter : is_digit (get_or s p 0) ≡ false → is_letter (get_or s p 0) ≡ true → run_lexeme is_word word_token (drop p s) p ≡ lexeme_of (drop p s) p
  unfolding lexeme_of
  at-letter d l = rw (drop-cons s p 0 h, d, l)

  pub at_other : is_digit (get_or s p 0) ≡ false → is_letter (get_or s p 0) ≡ false → symbol_lexeme p (longest (drop p s)) ≡ lexeme_of (drop p s) p
  unfolding lexeme_of
  at_other d l = rw (drop-cons s p 0 h, d, l)

-- most symbols stand below the digits, and those below the letters
pub below-digits : (b : ℕ) → b < 48 → (is_digit b ≡ false) × (is_letter b ≡ false)
below-digits b h = (rw (lt-leb 48 b h) refl, rw (lt-leb 65 b (omega arith), lt-leb 97 b (omega arith)) refl)

-- a word and an end by other names
pub lexes-as : {l : Lexeme} {w w' e e' : ℕ} → w ≡ w' → e ≡ e' → Lexes l w' e' → Lexes l w e
lexes-as {l} {w} {w'} {e} {e'} p q h = subst (λ (x : ℕ). Lexes l x e) (sym p) (subst (λ (x : ℕ). Lexes l w' x) (sym q) h)

pub judged : (p n : ℕ) (r : (Result Token ℕ)) → Lexes (lexeme p n r) (scanned_word r) (p + n)
judged p n (Ok t) = found t p (p + n)
judged p n (Err a) = wrong a p (p + n)

pub whole_run : (test : ℕ → Bool) (f : List ℕ → (Result Token ℕ)) (s : List ℕ) (p : ℕ) {w e : ℕ} {r : (Result Token ℕ)} → e ≡ p + run_len test (drop p s)
    → r ≡ f (take (e - p) (drop p s)) → w ≡ scanned_word r → Lexes (run_lexeme test f (drop p s) p) w e
whole_run test f s p {w} {e} {r} ends is k =
    let n : e - p ≡ run_len test (drop p s) = omega arith in
    let q : r ≡ f (take (run_len test (drop p s)) (drop p s)) = is ∙ ap (λ (m : ℕ). f (take m (drop p s))) n in
    lexes-as k ends (rw (← q) (judged p (run_len test (drop p s)) r))
