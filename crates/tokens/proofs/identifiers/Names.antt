-- The rule for a word by its length: only the names of that length are compared with it.
use Rattle.std.specs.Prelude.{Option, Result, Some, None, Ok, Err}
use mathlib.Core.Path.{◌≡◌, refl, sym, ap, ◌∙◌}
use mathlib.Core.Logic.{◌≢◌}
use mathlib.Core.Bool.{Bool, true, false, cond, and-false}
use mathlib.Core.List.{List, [], ◌∷◌}
use Prim.Native.Nat.{ℕ}
use native.Mathlib.Omega.{arith}
use lib.Dec.{eqb}
use lib.ListN.{length, get_or}
use borrow.Author.Tests.{eqb-false, ne_eqb}
use Rattle.memory.specs.Names.{is_digit, letter_bank, cell_after_letter, named_rule}
use Rattle.tokens.specs.declared.Function.{Function}
use Rattle.tokens.specs.declared.Token.TheVariants.{Name}
use Rattle.tokens.specs.Symbols.{equal_bytes}
use Rattle.tokens.specs.Words.{name_of, function_named, functions, function_count, letter_word, cell_word, other_word, word_token}
use Rattle.tokens.specs.private.Names.{name_at, Named}
use Rattle.tokens.proofs.Same.{unlike}
use Rattle.memory.specs.declared.Bank.{Bank}
use Rattle.tokens.specs.declared.Token.{Token}

-- the functions whose names have n bytes
abbrev pub of_length : ℕ → List Function → List Function
of_length n [] = []
of_length n (f ∷ fs) = cond (eqb (length (name_of f)) n) (f ∷ of_length n fs) (of_length n fs)

by_length : (fs : List Function) (s : List ℕ) (o : (Result Token ℕ)) → function_named fs s o ≡ function_named (of_length (length s) fs) s o
by_length [] s o = refl
by_length (f ∷ fs) s o = go (of_length (length s) fs) (eqb (length (name_of f)) (length s)) refl (by_length fs s o)
  where
    go : (gs : List Function) (t : Bool) → eqb (length (name_of f)) (length s) ≡ t → function_named fs s o ≡ function_named gs s o
        → function_named (f ∷ fs) s o ≡ function_named (cond t (f ∷ gs) gs) s o
    go gs true e h = ap (cond (equal_bytes (name_of f) s) (Ok (Name f))) h
    go gs false e h = rw (← unlike (name_of f) s (eqb-false _ _ e)) h

one : (s : List ℕ) → length s ≡ 1 → other_word s ≡ letter_word (letter_bank (get_or s 0 0))
unfolding other_word
one [] e = absurd (omega arith)
one (c ∷ []) e = refl
one (c ∷ d ∷ cs) e = absurd (omega arith)

-- a word of more letters is no cell where its second byte is no digit
not-a-cell : (d : ℕ) (cs : List ℕ) (l : Option Bank) → is_digit d ≡ false → cell_word (cell_after_letter (d ∷ cs) l) ≡ Err 6
not-a-cell d cs (Some b) e = rw (e, and-false)
not-a-cell d cs None e = refl

no_cell : (s : List ℕ) → is_digit (get_or s 1 0) ≡ false → (length s ≡ 1 → ⊥) → other_word s ≡ Err 6
unfolding other_word named_rule
no_cell [] e n = refl
no_cell (c ∷ []) e n = absurd (n refl)
no_cell (c ∷ d ∷ cs) e n = not-a-cell d cs (letter_bank c) e

-- a word of a length that no name has
pub no_length : (s : List ℕ) → length s ≢ 2 → length s ≢ 3 → length s ≢ 4 → length s ≢ 5 → length s ≢ 6 → length s ≢ 7 → length s ≢ 9 → Named s function_count
no_length s not2 not3 not4 not5 not6 not7 not9 =
    record { named = λ o. by_length functions s o ∙ ap (λ (fs : List Function). function_named fs s o) none }
  where
    not-of : (n : ℕ) → length s ≢ n → eqb n (length s) ≡ false
    not-of n m = ne_eqb n (length s) (λ e. m (sym e))

    none : of_length (length s) functions ≡ []
    none = rw (not-of 2 not2, not-of 3 not3, not-of 4 not4, not-of 5 not5, not-of 6 not6, not-of 7 not7, not-of 9 not9)

-- a word as long as some names, which all begin with other bytes
module _ (n : ℕ) (s : List ℕ) (long : length s ≡ n) where
  of_length_lem : (o : (Result Token ℕ)) → function_named functions s o ≡ function_named (of_length n functions) s o
  of_length_lem o = by_length functions s o ∙ ap (λ (m : ℕ). function_named (of_length m functions) s o) long

pub other_five : (s : List ℕ) → length s ≡ 5 → get_or s 0 0 ≢ 82 → get_or s 0 0 ≢ 83 → get_or s 0 0 ≢ 84 → Named s function_count
other_five [] l r t u = absurd (omega arith)
other_five (c ∷ cs) l r t u =
    record { named = λ o. of_length_lem 5 (c ∷ cs) l o ∙ rw (ne_eqb 82 c (λ e. r (sym e)), ne_eqb 83 c (λ e. t (sym e)), ne_eqb 84 c (λ e. u (sym e))) }

pub other_six : (s : List ℕ) → length s ≡ 6 → get_or s 0 0 ≢ 84 → Named s function_count
other_six [] l t = absurd (omega arith)
other_six (c ∷ cs) l t = record { named = λ o. of_length_lem 6 (c ∷ cs) l o ∙ rw (ne_eqb 84 c (λ e. t (sym e))) }

pub other_seven : (s : List ℕ) → length s ≡ 7 → get_or s 0 0 ≢ 83 → Named s function_count
other_seven [] l t = absurd (omega arith)
other_seven (c ∷ cs) l t = record { named = λ o. of_length_lem 7 (c ∷ cs) l o ∙ rw (ne_eqb 83 c (λ e. t (sym e))) }

pub other_nine : (s : List ℕ) → length s ≡ 9 → get_or s 0 0 ≢ 67 → Named s function_count
other_nine [] l t = absurd (omega arith)
other_nine (c ∷ cs) l t = record { named = λ o. of_length_lem 9 (c ∷ cs) l o ∙ rw (ne_eqb 67 c (λ e. t (sym e))) }

pub ruleset other_names = (no_length, other_five, other_six, other_seven, other_nine)

-- ---- words without a digit in the second place
-- one byte: no function's name
pub one_byte : (s : List ℕ) → length s ≡ 1 → word_token s ≡ letter_word (letter_bank (get_or s 0 0))
unfolding word_token
one_byte s e = by_length functions s (other_word s) ∙ ap (λ (n : ℕ). function_named (of_length n functions) s (other_word s)) e ∙ one s e

pub more_bytes : (s : List ℕ) {r : ℕ} → is_digit (get_or s 1 0) ≡ false → length s ≢ 1 → Named s r → word_token s ≡ name_at r (Err 6)
unfolding word_token
more_bytes s {r} d m h = h.named (other_word s) ∙ ap (name_at r) (no_cell s d m)
