-- A word with a digit in the second place is a cell, or refused.
use Rattle.std.specs.Prelude.{Result, Some, None}
use mathlib.Core.Path.{◌≡◌, refl, sym, ap, ◌∙◌}
use mathlib.Core.Bool.{true, false, and-false}
use mathlib.Core.List.{List, ◌∷◌}
use Prim.Native.Nat.{ℕ, suc, ◌+◌, ◌-◌, ◌*◌, ◌≤◌, ◌<◌, min}
use native.Mathlib.Numerals.{add-one}
use native.Mathlib.Omega.{arith}
use lib.Dec.{eqb}
use lib.ListN.{length, get_or, take, drop, length-take}
use lib.Seq.{drop-cons}
use borrow.Author.Tests.{ne_eqb, eqb-true, eqb-false}
use Rattle.memory.specs.declared.Bank.{Bank}
use Rattle.memory.specs.Layout.{layout_of}
use Rattle.memory.specs.Names.{is_digit, digits_of, no_leading_zero, decimal_from, decimal_limit, number_below, letter_bank, cell_after_letter, named_rule}
use Rattle.memory.specs.Numbers.{bank_number}
use Rattle.memory.proofs.names.Decimals.{digit-range, single, no_zero, leading, below, not-below}
use Rattle.memory.proofs.names.Words.{few}
use Rattle.tokens.specs.declared.Token.TheVariants.{Cell}
use Rattle.tokens.specs.Bytes.{is_letter, is_word, run_len}
use Rattle.tokens.specs.Words.{function_named, functions, cell_word, other_word, word_token}
use Rattle.tokens.specs.Scan.{Wrong, lexeme, run_lexeme}
use Rattle.tokens.proofs.Tests.{by-test}
use Rattle.tokens.proofs.Runs.{run-most}
use Rattle.token_table.specs.private.Table.{pack_fields}
use Rattle.token_table.specs.private.Lexing.{Lexes, found}
use Rattle.token_table.proofs.Digits.{digit-word, inside, behind, digits-again, run-digits, run_more}
use Rattle.token_table.proofs.Lexemes.{lexes-as}
use Rattle.tokens.specs.declared.Token.{Token}

-- the second byte of every function's name is a letter
no_name : (c d : ℕ) (s : List ℕ) (o : (Result Token ℕ)) → is_digit d ≡ true → function_named functions (c ∷ d ∷ s) o ≡ o
no_name c d s o e =
    let h = digit-range d e in
    let not : (k : ℕ) → 58 < k → eqb k d ≡ false = λ k l. ne_eqb k d (λ q. omega arith) in
    simp (
      not 66 (omega arith),
      not 79 (omega arith),
      not 82 (omega arith),
      not 65 (omega arith),
      not 73 (omega arith),
      not 70 (omega arith),
      not 85 (omega arith),
      not 86 (omega arith),
      and-false,
    )

on_list : (c d : ℕ) (cs : List ℕ) (p : ℕ) → is_letter c ≡ true → is_digit d ≡ true
    → run_lexeme is_word word_token (c ∷ d ∷ cs) p ≡ lexeme p (suc (run_len is_word (d ∷ cs)))
    (cell_word (cell_after_letter (take (run_len is_word (d ∷ cs)) (d ∷ cs)) (letter_bank c)))
unfolding word_token other_word named_rule
on_list c d cs p l e = rw (l, digit-word d e) (ap (lexeme p (suc (suc (run_len is_word cs)))) (no_name c d (take (run_len is_word cs) cs) _ e))

module _ (s : List ℕ) (at : ℕ) (letter : is_letter (get_or s at 0) ≡ true) (digit : is_digit (get_or s (at + 1) 0) ≡ true) where
  pub second : at + 1 < length s
  second = let h = digit-range (get_or s (at + 1) 0) digit in inside s (at + 1) (get_or s (at + 1) 0) refl (omega arith)

  -- the run behind the letter
  abbrev rest : List ℕ
  rest = drop (at + 1) s

  abbrev run : List ℕ
  run = take (run_len is_word rest) rest

  there : rest ≡ get_or s (at + 1) 0 ∷ drop (suc (at + 1)) s
  there = drop-cons s (at + 1) 0 second

  here : drop at s ≡ get_or s at 0 ∷ rest
  here = drop-cons s at 0 (omega (arith, second)) ∙ ap (λ (k : ℕ). get_or s at 0 ∷ drop k s) (sym (add-one at))

  judged : run_lexeme is_word word_token (drop at s) at
      ≡ lexeme at (suc (run_len is_word rest)) (cell_word (cell_after_letter run (letter_bank (get_or s at 0))))
  judged =
      let both : drop at s ≡ get_or s at 0 ∷ get_or s (at + 1) 0 ∷ drop (suc (at + 1)) s = here ∙ ap (λ (l : List ℕ). get_or s at 0 ∷ l) there in
      rw (both, there) (on_list (get_or s at 0) (get_or s (at + 1) 0) (drop (suc (at + 1)) s) at letter digit)

  -- nothing, for a letter that is no bank's, or a number that its bank has not
  pub no-bank : {w e : ℕ} → letter_bank (get_or s at 0) ≡ None → ((p : ℕ) → Lexes (Wrong 6 p) w e) → Lexes (run_lexeme is_word word_token (drop at s) at) w e
  no-bank b h = rw (judged, b) (h at)

  -- the digits behind the first
  more-digits : digits_of rest ≡ get_or s (at + 1) 0 ∷ digits_of (drop (at + 2) s)
  more-digits =
      let two : suc (at + 1) ≡ at + 2 = omega arith in
      ap digits_of there ∙ rw digit (ap (λ (k : ℕ). get_or s (at + 1) 0 ∷ digits_of (drop k s)) two)

  pub value_of : {v d : ℕ} → d ≡ get_or s (at + 1) 0 → v ≡ min (decimal_from (d - 48) (digits_of (drop (at + 2) s))) decimal_limit
      → v ≡ min (decimal_from 0 (digits_of rest)) decimal_limit
  value_of {d = d} e q =
      let ds = digits_of (drop (at + 2) s) in
      let z : 0 * 10 + (get_or s (at + 1) 0 - 48) ≡ d - 48 = omega (arith, e) in
      q ∙ sym (ap (λ (l : List ℕ). min (decimal_from 0 l) decimal_limit) more-digits ∙ ap (λ (n : ℕ). min (decimal_from n ds) decimal_limit) z)

  pub end_of : {e : ℕ} → e ≡ at + 2 + length (digits_of (drop (at + 2) s)) → e ≡ at + 1 + length (digits_of rest)
  end_of q = rw more-digits (omega (arith, q))

  module _ (b : Bank) (bank : letter_bank (get_or s at 0) ≡ Some b) {v e x : ℕ} (value : v ≡ min (decimal_from 0 (digits_of rest)) decimal_limit)
      (ends : e ≡ at + 1 + length (digits_of rest)) (next : x ≡ get_or s e 0) where
    abbrev elements : ℕ
    elements = (layout_of b).elements

    no_cell : {w k : ℕ} → number_below elements run ≡ false → ((p : ℕ) → Lexes (Wrong 6 p) w k) → Lexes (run_lexeme is_word word_token (drop at s) at) w k
    no_cell f h = rw (judged, bank, f) (h at)

    pub longer : {w k : ℕ} → is_word x ≡ true → ((p : ℕ) → Lexes (Wrong 6 p) w k) → Lexes (run_lexeme is_word word_token (drop at s) at) w k
    longer t h = no_cell (rw (run_more is_word digit-word rest refl (rw (behind s (at + 1) ends next) at t), and-false)) h

    module _ (f : is_word x ≡ false) where
      whole : run ≡ digits_of rest
      whole = run-digits is_word digit-word rest (rw (behind s (at + 1) ends next) at f)

      only : length (digits_of run) ≡ length run
      only = rw (whole, digits-again rest)

      made : v ≡ min (decimal_from 0 (digits_of run)) decimal_limit
      made = rw (whole, digits-again rest) value

      size : e ≡ at + suc (length run)
      size = rw whole (omega (arith, ends))

      first : get_or run 0 0 ≡ get_or s (at + 1) 0
      first = rw (there, digit-word (get_or s (at + 1) 0) digit)

      pub beyond : {w k : ℕ} → elements ≤ v → ((p : ℕ) → Lexes (Wrong 6 p) w k) → Lexes (run_lexeme is_word word_token (drop at s) at) w k
      beyond l h = no_cell (not-below run elements v only made (few b) l) h

      pub zero-first : {w k : ℕ} → get_or s (at + 1) 0 ≡ 48 → (e ≡ at + 2 → ⊥) → ((p : ℕ) → Lexes (Wrong 6 p) w k)
          → Lexes (run_lexeme is_word word_token (drop at s) at) w k
      zero-first z n h = no_cell (rw (leading run (first ∙ z) (λ q. n (omega (arith, size))))) h

      -- a leading zero stands alone
      plain : (get_or s (at + 1) 0 ≡ 48 → e ≡ at + 2) → no_leading_zero run ≡ true
      plain z =
          by-test (eqb (get_or s (at + 1) 0) 48) (λ t. single run (omega (arith, z (eqb-true _ 48 t), size)))
          (λ t. no_zero run (omega (arith, size, some)) (λ q. eqb-false (get_or s (at + 1) 0) 48 t (sym first ∙ q)))
        where
          some : 0 < length run
          some = rw (there, digit-word (get_or s (at + 1) 0) digit) (omega arith)

      pub cell : v < elements → (get_or s (at + 1) 0 ≡ 48 → e ≡ at + 2)
          → Lexes (run_lexeme is_word word_token (drop at s) at) (pack_fields 3 (bank_number b) v 0) e
      cell l z =
          let h = below run elements v only made (few b) (plain z) l in
          let n : suc (run_len is_word rest) ≡ suc (length run) = rw length-take (omega (arith, run-most is_word rest)) in
          rw (judged, bank, h.0, h.1, n) (lexes-as refl size (found (Cell b v) at (at + suc (length run))))
