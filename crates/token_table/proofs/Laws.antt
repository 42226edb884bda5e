-- Laws of the table for the layers above: a token's word is read as it was packed, and what stands at a position is what is listed from there on.
use Rattle.std.specs.Prelude.{Ok, Err}
use mathlib.Core.Path.{◌≡◌, refl, sym, ap, ◌∙◌}
use mathlib.Core.List.{List, [], ◌∷◌}
use Prim.Native.Nat.{ℕ, zero, suc, ◌<◌}
use native.Mathlib.Omega.{arith}
use lib.Dec.{lit<}
use lib.ListN.{length, replicate}
use lib.Ieee.{binary32, to_bits}
use lib.Ieee.Bits.{is_true, of_bits-to_bits}
use Rattle.values.specs.declared.Value.TheVariants.{Int, Real}
use Rattle.values.specs.Integers.{in_range}
use Rattle.values.specs.Patterns.{low_bits}
use Rattle.values.proofs.Ranges.{range-sfits}
use Rattle.values.proofs.patterns.Readings.{signed_low}
use Rattle.words.proofs.Lists.{zeros}
use Rattle.memory.specs.Cells.{finite_or_fault}
use Rattle.memory.specs.Numbers.{bank_number}
use Rattle.tokens.specs.declared.Token.{Token}
use Rattle.tokens.specs.declared.Token.TheVariants.{Number, Cell, Letter, Name, Symbol}
use Rattle.tokens.specs.Scan.{Tok, Scan, tokens, wrong}
use Rattle.token_table.specs.private.Table.{Entry, Is, End, function_number, pack_token, word_class, word_operand, word_number, word_place, real_entry}
use Rattle.token_table.specs.private.Table.{cell_entry, letter_entry, name_entry, token_of, entry_of, entry_at, listed, tokens_from, Fills, filled}
use Rattle.token_table.specs.private.Table.{stopped, Sound, blank, TokenWords}
use Rattle.token_table.proofs.Fields.{Parts, parts, bank, function, finite-real}
use Rattle.token_table.specs.Refusals.{refusal}

abbrev pub tok : Token → ℕ → Tok
tok t p = record { token = t; place = p }

-- ---- what a token's word holds
abbrev pub token_class : Token → ℕ
token_class (Number (Int z)) = 1
token_class (Number (Real x)) = 2
token_class (Cell b i) = 3
token_class (Letter b) = 4
token_class (Name f) = 5
token_class (Symbol n) = 6

abbrev pub token_operand : Token → ℕ
token_operand (Number v) = 0
token_operand (Cell b i) = bank_number b
token_operand (Letter b) = bank_number b
token_operand (Name f) = function_number f
token_operand (Symbol n) = n

abbrev pub token_number : Token → ℕ
token_number (Number (Int z)) = low_bits 32 z
token_number (Number (Real x)) = to_bits binary32 x
token_number (Cell b i) = i
token_number (Letter b) = 0
token_number (Name f) = 0
token_number (Symbol n) = 0

holds : {t : Token} → Sound t → (p : ℕ) → p < 65536 → Parts (pack_token t p) (token_class t) (token_operand t) (token_number t) p
holds (Sound.int z r) p h = parts 1 0 (low_bits 32 z) p (lit< tt) (lit< tt) h
holds (Sound.real x S) p h = parts 2 0 (to_bits binary32 x) p (lit< tt) (lit< tt) h
holds (Sound.cell b i k) p h = parts 3 (bank_number b) i p (lit< tt) (bank b).0 h
holds (Sound.letter b) p h = parts 4 (bank_number b) 0 p (lit< tt) (bank b).0 h
holds (Sound.name f) p h = parts 5 (function_number f) 0 p (lit< tt) (function f).0 h
holds (Sound.symbol n k) p h = parts 6 n 0 p (lit< tt) (omega arith) h

means : {t : Token} → Sound t → (p : ℕ) → token_of (token_class t) (token_operand t) (token_number t) p ≡ Is t p
unfolding token_of
means (Sound.int z r) p = ap (λ y. Is (Number (Int y)) p) (signed_low 32 z (lit< tt) (range-sfits z (is_true (in_range z) r)).sfits)
means (Sound.real x S) p = ap (λ y. real_entry (finite_or_fault y) p) (of_bits-to_bits binary32 x S.fit) ∙ finite-real x p S.real
means (Sound.cell b i k) p = ap (λ o. cell_entry o i p) (bank b).1
means (Sound.letter b) p = ap (λ o. letter_entry o p) (bank b).1
means (Sound.name f) p = ap (λ o. name_entry o p) (function f).1
means (Sound.symbol n k) p = refl

module _ {t : Token} (s : Sound t) (p : ℕ) (h : p < 65536) where
  pub class-packed : word_class (pack_token t p) ≡ token_class t
  class-packed = (holds s p h).class

  pub operand-packed : word_operand (pack_token t p) ≡ token_operand t
  operand-packed = (holds s p h).operand

  pub number-packed : word_number (pack_token t p) ≡ token_number t
  number-packed = (holds s p h).number

  pub place-packed : word_place (pack_token t p) ≡ p
  place-packed = (holds s p h).place

  pub unpacked : entry_of (pack_token t p) ≡ Is t p
  unpacked = rw (class-packed, operand-packed, number-packed, place-packed) (means s p)

  pub some-class : word_class (pack_token t p) ≡ 0 → ⊥
  unfolding token_of
  some-class e =
      let a : entry_of (pack_token t p) ≡ End = rw e in
      let b = unpacked in
      let z : ◌≡◌ {A = ℕ} 0 1 = cc in
      omega arith

pub blank-end : entry_of 0 ≡ End
unfolding token_of
blank-end = refl

-- ---- what stands at a position is what is listed from there on
module _ (w : ℕ) (ws : List ℕ) where
  pub list-is : {t : Token} {p : ℕ} → entry_of w ≡ Is t p → listed (w ∷ ws) ≡ tok t p ∷ listed ws
  unfolding listed
  list-is q = rw (q, listed)

  pub list-end : entry_of w ≡ End → listed (w ∷ ws) ≡ []
  unfolding listed
  list-end q = rw (q, listed)

pub from_is : (s : List ℕ) (i : ℕ) {t : Token} {p : ℕ} → entry_at s i ≡ Is t p → (i < length s) × (tokens_from s i ≡ tok t p ∷ tokens_from s (suc i))
unfolding token_of
from_is [] i q = let z : ◌≡◌ {A = ℕ} 0 1 = cc in absurd (omega arith)
from_is (w ∷ ws) zero q = (omega arith, list-is w ws q)
from_is (w ∷ ws) (suc i) q = let h = from_is ws i q in (omega arith, h.1)

pub from_end : (s : List ℕ) (i : ℕ) → entry_at s i ≡ End → tokens_from s i ≡ []
unfolding listed
from_end [] zero q = refl
from_end [] (suc i) q = refl
from_end (w ∷ ws) zero q = list-end w ws q
from_end (w ∷ ws) (suc i) q = from_end ws i q

pub from-head : (s : List ℕ) (i : ℕ) {x : Tok} {xs : List Tok} → tokens_from s i ≡ x ∷ xs
    → (entry_at s i ≡ Is x.token x.place) × (xs ≡ tokens_from s (suc i))
from-head s i {x} {xs} q = by (entry_at s i) refl
  where
    by : (e : Entry) → entry_at s i ≡ e → (entry_at s i ≡ Is x.token x.place) × (xs ≡ tokens_from s (suc i))
    by (Is t p) m =
        let h = (from_is s i m).1 in
        let e : tok t p ≡ x = cc in
        (m ∙ ap (λ (y : Tok). Is y.token y.place) e, cc)
    by End m = let h = from_end s i m in let z : ◌≡◌ {A = ℕ} 0 1 = cc in absurd (omega arith)

pub from-none : (s : List ℕ) (i : ℕ) → tokens_from s i ≡ [] → entry_at s i ≡ End
from-none s i q = by (entry_at s i) refl
  where
    by : (e : Entry) → entry_at s i ≡ e → entry_at s i ≡ End
    by (Is t p) m = let h = (from_is s i m).1 in let z : ◌≡◌ {A = ℕ} 0 1 = cc in absurd (omega arith)
    by End m = m

-- ---- what a table that was filled says of the text
pub filled-good : {z : Scan} {s : List ℕ} → Fills z s (Ok tt) → z ≡ tokens (listed s)
filled-good (filled q) = ap tokens (sym q)

pub filled-wrong : {z : Scan} {s : List ℕ} {a p : ℕ} → Fills z s (Err (refusal a p)) → z ≡ wrong a p
filled-wrong stopped = refl

-- ---- a table without tokens
pub no-tokens : (n : ℕ) → TokenWords (replicate n 0)
no-tokens n i = rw (zeros n i) blank
