-- The word of a token that is listed: what the code asks of it.
use mathlib.Core.Path.{◌≡◌, refl, sym, ap, subst, ◌∙◌}
use mathlib.Core.Bool.{Bool, true, false}
use mathlib.Core.List.{List, [], ◌∷◌}
use Prim.Native.Nat.{ℕ, ◌+◌, ◌*◌, ◌<◌}
use native.Mathlib.Omega.{arith}
use lib.ListN.{length}
use borrow.Author.Tests.{eqb-true, ne_eqb}
use Rattle.tokens.proofs.Tests.{no}
use native.Mathlib.Numerals.{add-one}
use Rattle.tokens.specs.declared.Token.{Token}
use Rattle.tokens.specs.declared.Token.TheVariants.{Number, Cell, Letter, Name, Symbol}
use Rattle.tokens.specs.Scan.{Tok}
use Rattle.token_table.specs.private.Table.{Is, End, pack_token, word_class, word_operand, word_place, entry_of, entry_at, word_at}
use Rattle.token_table.specs.private.Table.{tokens_from, Sound, TokenWord, blank, token, TokenWords}
use Rattle.token_table.proofs.Laws.{token_class, token_operand, class-packed, operand-packed, place-packed, unpacked, blank-end, from_is, from-head, from-none}
use Rattle.grammar.specs.Symbols.{group, is_symbol}
use Rattle.draft.specs.private.Words.{is_mark, group_in}
use Rattle.draft.proofs.Marks.{low_half, mark-sound, group-sound}

pub record Word (table : List ℕ) (at : ℕ) (x : Tok) : Type 0 where
  pub sound : Sound x.token
  pub small : x.place < 65536
  pub is : word_at table at ≡ pack_token x.token x.place
  pub within : at < length table

module _ (table : List ℕ) (at : ℕ) (words : TokenWords table) where
  -- a token comes next: its word, and what is listed behind it
  pub word-of : {x : Tok} {xs : List Tok} → tokens_from table at ≡ x ∷ xs → Word table at x
  word-of {x} {xs} q = go (words at) refl
    where
      go : {w : ℕ} → TokenWord w → word_at table at ≡ w → Word table at x
      go blank e = let a = (from-head table at q).0 in let b : entry_at table at ≡ End = ap entry_of e ∙ blank-end in let z : ◌≡◌ {A = ℕ} 0 1 = cc in
          absurd (omega arith)
      go (token t p k lt) e =
          let a = (from-head table at q).0 in
          let b : entry_at table at ≡ Is t p = ap entry_of e ∙ unpacked k p lt in
          let ht : t ≡ x.token = cc in
          let hp : p ≡ x.place = cc in
          record {
            sound = subst Sound ht k;
            small = omega arith;
            is = e ∙ ap (λ (u : Token). pack_token u p) ht ∙ ap (pack_token x.token) hp;
            within =
                (from_is table at b).0;
          }

  pub behind : {x : Tok} {xs : List Tok} → tokens_from table at ≡ x ∷ xs → tokens_from table (at + 1) ≡ xs
  behind q = ap (tokens_from table) (add-one at) ∙ sym (from-head table at q).1

  pub no_word : tokens_from table at ≡ [] → word_at table at ≡ 0
  no_word q = go (words at) refl
    where
      go : {w : ℕ} → TokenWord w → word_at table at ≡ w → word_at table at ≡ 0
      go blank e = e
      go (token t p k lt) e = let a = from-none table at q in let b : entry_at table at ≡ Is t p = ap entry_of e ∙ unpacked k p lt in
          let z : ◌≡◌ {A = ℕ} 0 1 = cc in absurd (omega arith)

module _ {table : List ℕ} {at : ℕ} {x : Tok} (h : Word table at x) where
  pub class-is : word_class (word_at table at) ≡ token_class x.token
  class-is = ap word_class h.is ∙ class-packed h.sound x.place h.small

  pub operand-is : word_operand (word_at table at) ≡ token_operand x.token
  operand-is = ap word_operand h.is ∙ operand-packed h.sound x.place h.small

  pub place_is : word_place (word_at table at) ≡ x.place
  place_is = ap word_place h.is ∙ place-packed h.sound x.place h.small

-- ---- symbols
abbrev pub head_is : ℕ → List Tok → Bool
head_is n [] = false
head_is n (x ∷ xs) = is_symbol n x.token

abbrev pub head_group : List Tok → ℕ
head_group [] = 0
head_group (x ∷ xs) = group x.token

module _ (table : List ℕ) (at : ℕ) (words : TokenWords table) where
  pub mark-head : (n : ℕ) → is_mark n (word_at table at) ≡ head_is n (tokens_from table at)
  mark-head n = go (tokens_from table at) refl
    where
      go : (ts : List Tok) → tokens_from table at ≡ ts → is_mark n (word_at table at) ≡ head_is n ts
      go [] q = ap (is_mark n) (no_word table at words q) ∙ ne_eqb 0 (6 + 256 * n) (λ e. omega arith)
      go (x ∷ xs) q =
          let h = word-of table at words q in
          rw (low_half (word_at table at), class-is h, operand-is h) (mark-sound h.sound n)

  pub group-head : group_in (word_at table at) ≡ head_group (tokens_from table at)
  group-head = go (tokens_from table at) refl
    where
      go : (ts : List Tok) → tokens_from table at ≡ ts → group_in (word_at table at) ≡ head_group ts
      go [] q = ap group_in (no_word table at words q)
      go (x ∷ xs) q =
          let h = word-of table at words q in
          rw (class-is h, operand-is h) (group-sound h.sound)

-- a symbol that is asked for
pub is-symbol : (n : ℕ) (t : Token) → is_symbol n t ≡ true → t ≡ Symbol n
is-symbol n (Number v) e = no e
is-symbol n (Cell b i) e = no e
is-symbol n (Letter b) e = no e
is-symbol n (Name f) e = no e
is-symbol n (Symbol m) e = ap Symbol (eqb-true m n e)
