-- A word that a table holds is real as its token is.
use mathlib.Core.Path.{◌≡◌, refl, sym, ap, ◌∙◌}
use mathlib.Core.Bool.{true, false}
use mathlib.Core.List.{List, ◌∷◌}
use Prim.Native.Nat.{ℕ, suc, ◌+◌, ◌≤◌, ◌<◌}
use native.Mathlib.Omega.{arith}
use lib.Dec.{eqb}
use lib.ListN.{length, drop_of_length-le}
use borrow.Author.Tests.{ne_eqb}
use Rattle.memory.specs.declared.Bank.{Bank}
use Rattle.memory.specs.declared.Bank.TheVariants.{X, C, «V», N, D, R}
use Rattle.memory.specs.Numbers.{bank_number}
use Rattle.values.specs.declared.ChoiceOp.TheVariants as Choose
use Rattle.values.specs.declared.CompareOp.TheVariants as Compare
use Rattle.totals.specs.declared.TotalOp.TheVariants.{Sum, Average, Choice}
use Rattle.totals.specs.declared.MatchOp.TheVariants as M
use Rattle.tokens.specs.declared.Function.{Function}
use Rattle.tokens.specs.declared.Function.TheVariants as F
use Rattle.tokens.specs.declared.Token.{Token}
use Rattle.grammar.specs.Tree.{Diagnostic, clear}
use Rattle.token_table.specs.private.Table.{function_number, pack_token, word_class, word_operand, entry_of, word_at, listed, tokens_from, Sound}
use Rattle.token_table.specs.private.Table.{TokenWord, blank}
use Rattle.token_table.specs.private.Table.{token, TokenWords}
use Rattle.token_table.proofs.Laws.{tok, token_class, token_operand, class-packed, operand-packed, place-packed, unpacked, some-class, blank-end}
use Rattle.token_table.proofs.Laws.{from_is, from_end}
use Rattle.profile.specs.Parts.{real_bank}
use Rattle.profile_text.specs.Tokens.{real_function, real_token, real_at, first_real}
use Rattle.real_tokens.specs.private.Words.{is_real_function, is_real_bank, is_real_word, shown}

bank-real : (b : Bank) → is_real_bank (bank_number b) ≡ real_bank b
bank-real X = refl
bank-real C = refl
bank-real «V» = refl
bank-real N = refl
bank-real D = refl
bank-real R = refl

function-real : (f : Function) → is_real_function (function_number f) ≡ real_function f
function-real F.Abs = refl
function-real F.ToReal = refl
function-real F.ToInt = refl
function-real F.Trunc = refl
function-real F.Round = refl
function-real F.Frac = refl
function-real F.Max = refl
function-real F.Min = refl
function-real F.If = refl
function-real F.TickMs = refl
function-real F.Since = refl
function-real (F.Total Sum) = refl
function-real (F.Total Average) = refl
function-real (F.Total (Choice Choose.Max)) = refl
function-real (F.Total (Choice Choose.Min)) = refl
function-real (F.Match (M.Count Compare.Eq)) = refl
function-real (F.Match (M.Count Compare.Ne)) = refl
function-real (F.Match (M.Count Compare.Ge)) = refl
function-real (F.Match (M.Count Compare.Gt)) = refl
function-real (F.Match (M.Count Compare.Le)) = refl
function-real (F.Match (M.Count Compare.Lt)) = refl
function-real (F.Match (M.Sum Compare.Eq)) = refl
function-real (F.Match (M.Sum Compare.Ne)) = refl
function-real (F.Match (M.Sum Compare.Ge)) = refl
function-real (F.Match (M.Sum Compare.Gt)) = refl
function-real (F.Match (M.Sum Compare.Le)) = refl
function-real (F.Match (M.Sum Compare.Lt)) = refl

token-real : {t : Token} → Sound t → is_real_word (token_class t) (token_operand t) ≡ real_token t
token-real (Sound.int z r) = refl
token-real (Sound.real x S) = refl
token-real (Sound.cell b i k) = bank-real b
token-real (Sound.letter b) = bank-real b
token-real (Sound.name f) = function-real f
token-real (Sound.symbol n k) = refl

word-real : {t : Token} (s : Sound t) (p : ℕ) → p < 65536 → is_real_word (word_class (pack_token t p)) (word_operand (pack_token t p)) ≡ real_token t
word-real s p h = rw (class-packed s p h, operand-packed s p h) (token-real s)

-- ---- the tokens from a position on, the first real of which is looked for
abbrev pub Seeks : List ℕ → Diagnostic → ℕ → Type 0
Seeks s d at = first_real (tokens_from s at) ≡ d

module _ (s : List ℕ) {d : Diagnostic} (at : ℕ) (h : TokenWords s) (k : Seeks s d at) where
  -- the end of the tokens
  pub none_here : word_class (word_at s at) ≡ 0 → clear ≡ d
  unfolding first_real
  none_here e = by (word_at s at) refl (h at) e
    where
      by : (w : ℕ) → w ≡ word_at s at → TokenWord w → word_class w ≡ 0 → clear ≡ d
      by _ q blank z = sym (ap first_real (from_end s at (ap entry_of (sym q) ∙ blank-end))) ∙ k
      by _ q (token t p t' l) z = absurd (some-class t' p l z)

  -- a real token
  pub real-here : is_real_word (word_class (word_at s at)) (word_operand (word_at s at)) ≡ true → shown (word_at s at) ≡ d
  unfolding first_real
  real-here e = by (word_at s at) refl (h at) e
    where
      by : (w : ℕ) → w ≡ word_at s at → TokenWord w → is_real_word (word_class w) (word_operand w) ≡ true → shown w ≡ d
      by _ q blank z = let y : ◌≡◌ {A = ℕ} 0 1 = cc in absurd (omega arith)
      by _ q (token t p t' l) z =
          let r : real_token t ≡ true = sym (word-real t' p l) ∙ z in
          let n : eqb (pack_token t p) 0 ≡ false = ne_eqb (pack_token t p) 0 (λ o. some-class t' p l (ap word_class o)) in
          let f = (from_is s at (ap entry_of (sym q) ∙ unpacked t' p l)).1 in
          let g : first_real (tok t p ∷ tokens_from s (suc at)) ≡ real_at p = rw r in
          rw (n, place-packed t' p l) (sym g ∙ sym (ap first_real f) ∙ k)

  -- another token
  pub other-here : (word_class (word_at s at) ≡ 0 → ⊥) → is_real_word (word_class (word_at s at)) (word_operand (word_at s at)) ≡ false → Seeks s d (at + 1)
  unfolding first_real
  other-here o e = by (word_at s at) refl (h at) o e
    where
      by : (w : ℕ) → w ≡ word_at s at → TokenWord w → (word_class w ≡ 0 → ⊥) → is_real_word (word_class w) (word_operand w) ≡ false → Seeks s d (at + 1)
      by _ q blank o z = absurd (o refl)
      by _ q (token t p t' l) o z =
          let r : real_token t ≡ false = sym (word-real t' p l) ∙ z in
          let f = (from_is s at (ap entry_of (sym q) ∙ unpacked t' p l)).1 in
          let g : first_real (tok t p ∷ tokens_from s (suc at)) ≡ first_real (tokens_from s (suc at)) = rw r in
          let n : suc at ≡ at + 1 = omega arith in
          ap (λ (i : ℕ). first_real (tokens_from s i)) (sym n) ∙ (sym g ∙ sym (ap first_real f) ∙ k)

-- behind the last word
pub past-last : (s : List ℕ) {d : Diagnostic} (at : ℕ) → Seeks s d at → length s ≤ at → clear ≡ d
unfolding first_real listed
past-last s at k h = sym (ap (λ (l : List ℕ). first_real (listed l)) (drop_of_length-le s h)) ∙ k
