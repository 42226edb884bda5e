-- A word without a digit in the second place: a bank's letter, a function's name, or refused.
use Rattle.std.specs.Prelude.{Some, None, Ok, Err}
use mathlib.Core.Path.{◌≡◌, refl, sym, ap, ◌∙◌}
use mathlib.Core.Logic.{◌≢◌}
use mathlib.Core.Bool.{Bool, true, false}
use mathlib.Core.List.{List}
use Prim.Native.Nat.{ℕ, ◌+◌, ◌-◌, ◌≤◌, ◌<◌, min}
use native.Mathlib.Omega.{arith}
use lib.Dec.{eqb}
use lib.ListN.{length, get_or, take, drop, length-take, length-drop}
use lib.Seq.{drop-cons}
use borrow.Author.Tests.{lt-ltb, le-ltb, eqb-true}
use Rattle.memory.specs.declared.Bank.{Bank}
use Rattle.memory.specs.Names.{is_digit, letter_bank}
use Rattle.memory.specs.Numbers.{bank_number}
use Rattle.tokens.specs.declared.Token.TheVariants.{Name}
use Rattle.tokens.specs.Bytes.{is_word, run_len}
use Rattle.tokens.specs.Words.{function_count, function_at, letter_word, word_token}
use Rattle.tokens.specs.private.Names.{name_at, Named}
use Rattle.tokens.specs.Scan.{Wrong, run_lexeme}
use Rattle.tokens.proofs.Below.{below, below_at}
use Rattle.tokens.proofs.identifiers.Names.{one_byte, more_bytes}
use Rattle.token_table.specs.private.Table.{pack_fields, function_number}
use Rattle.token_table.specs.private.Lexing.{Lexes}
use Rattle.token_table.proofs.Digits.{no_second}
use Rattle.token_table.proofs.Lexemes.{whole_run}

-- a function's number is its place in the list
own-number : ℕ → Bool
own-number f = eqb (function_number (function_at f)) f

own-numbers : below function_count own-number ≡ true
unfolding below own-number
own-numbers = refl

back : (f : ℕ) → f < function_count → function_number (function_at f) ≡ f
unfolding own-number
back f lt = eqb-true _ _ (below_at own-number function_count f own-numbers lt)

module _ (s : List ℕ) (at : ℕ) where
  abbrev run : ℕ → List ℕ
  run e = take (e - at) (drop at s)

  -- refused: the word's bytes are none of a token
  refused-run : {w e n : ℕ} → e ≡ at + run_len is_word (drop at s) → word_token (run e) ≡ Err 6 → ((p : ℕ) → Lexes (Wrong 6 p) w n)
      → Lexes (run_lexeme is_word word_token (drop at s) at) w n
  refused-run {e = e} ends is h =
      let z : e - at ≡ run_len is_word (drop at s) = omega arith in
      let q : word_token (take (run_len is_word (drop at s)) (drop at s)) ≡ Err 6 = ap (λ (m : ℕ). word_token (take m (drop at s))) (sym z) ∙ is in
      rw q (h at)

  -- ---- one byte
  module _ (inside : at < length s) (one : at + 1 ≡ at + run_len is_word (drop at s)) where
    letter-run : word_token (run (at + 1)) ≡ letter_word (letter_bank (get_or s at 0))
    letter-run =
        let z : at + 1 - at ≡ 1 = omega arith in
        let long : length (run (at + 1)) ≡ 1 = length-take (at + 1 - at) (drop at s) ∙ omega (arith, length-drop at s) in
        let first : get_or (run (at + 1)) 0 0 ≡ get_or s at 0 = rw (z, drop-cons s at 0 inside) in
        one_byte (run (at + 1)) long ∙ ap (λ (c : ℕ). letter_word (letter_bank c)) first

    pub a-letter : (b : Bank) {w : ℕ} → letter_bank (get_or s at 0) ≡ Some b → w ≡ pack_fields 4 (bank_number b) 0 0
        → Lexes (run_lexeme is_word word_token (drop at s) at) w (at + 1)
    a-letter b e k = whole_run is_word word_token s at one (sym (letter-run ∙ ap letter_word e)) k

    pub no-letter : {w n : ℕ} → letter_bank (get_or s at 0) ≡ None → ((p : ℕ) → Lexes (Wrong 6 p) w n)
        → Lexes (run_lexeme is_word word_token (drop at s) at) w n
    no-letter e = refused-run one (letter-run ∙ ap letter_word e)

  -- ---- more bytes
  module _ (inside : at < length s) (second : is_digit (get_or s (at + 1) 0) ≡ false) {e f : ℕ} (ends : e ≡ at + run_len is_word (drop at s))
      (within : e ≤ length s) (more : e ≢ at + 1) (h : Named (run e) f) where
    named-run : word_token (run e) ≡ name_at f (Err 6)
    named-run =
        let long : length (run e) ≡ min (e - at) (length s - at) = length-take (e - at) (drop at s) ∙ ap (min (e - at)) (length-drop at s) in
        more_bytes (run e) (no_second (e - at) at s second) (λ q. more (omega arith)) h

    pub a-name : {w : ℕ} → f < function_count → w ≡ pack_fields 5 f 0 0 → Lexes (run_lexeme is_word word_token (drop at s) at) w e
    a-name {w} lt k =
        let is : word_token (run e) ≡ Ok (Name (function_at f)) = named-run ∙ rw (lt-ltb f function_count lt) in
        whole_run is_word word_token s at ends (sym is) (k ∙ ap (λ (n : ℕ). pack_fields 5 n 0 0) (sym (back f lt)))

    pub no_name : {w n : ℕ} → function_count ≤ f → ((p : ℕ) → Lexes (Wrong 6 p) w n) → Lexes (run_lexeme is_word word_token (drop at s) at) w n
    no_name le = refused-run ends (named-run ∙ rw (le-ltb f function_count le))
