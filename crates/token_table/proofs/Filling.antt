-- Filling a table: what is found so far stands in the first words, whatever follows them.
use Rattle.std.specs.Prelude.{Result, Ok, Err, ⊤}
use mathlib.Core.Path.{◌≡◌, refl, sym, ap, ◌∙◌}
use mathlib.Core.Bool.{true, false}
use mathlib.Core.List.{List, [], ◌∷◌, ◌++◌}
use Prim.Native.Nat.{ℕ, zero, suc, ◌+◌, ◌-◌, ◌*◌, ◌^◌, ◌≤◌, ◌<◌}
use native.Mathlib.Numerals.{add-one}
use native.Mathlib.Omega.{arith}
use lib.Dec.{lit<}
use lib.ListN.{length, get_or, take, drop, set, length-set, take-append-drop, drop_of_length-le}
use lib.Seq.{take-suc-set, set_split, append_snoc}
use Rattle.values.specs.declared.Value.TheVariants.{Int, Real}
use Rattle.tokens.specs.declared.Token.{Token}
use Rattle.tokens.specs.declared.Token.TheVariants.{Number, Cell, Letter, Name, Symbol}
use Rattle.tokens.specs.Bytes.{is_space}
use Rattle.tokens.specs.Scan.{Lexeme, Found, Wrong, End, Tok, Scan, cons_token, lexeme_of, blanks, lexeme_at, scan}
use Rattle.tokens.proofs.Laws.{Lies, found as found_at, wrong-at, rest, no-blank, at_once, at-blank, at-found, at-wrong, at-end}
use Rattle.tokens.proofs.Known.{known}
use Rattle.token_table.specs.private.Table.{Entry, pack_fields, pack_token, word_class, word_number, word_place, entry_of, Fills, filled, stopped}
use Rattle.token_table.specs.private.Table.{Sound, TokenWord, blank, TokenWords}
use Rattle.token_table.specs.private.Lexing.{Lexes, found, wrong}
use Rattle.token_table.proofs.Fields.{known-sound}
use Rattle.token_table.proofs.Laws.{tok, some-class, place-packed, unpacked, blank-end, list-is, list-end}
use Rattle.token_table.specs.declared.Refusal.{Refusal}
use Rattle.token_table.specs.Refusals.{refusal}

fills-more : {w : ℕ} {t : Token} {p : ℕ} → entry_of w ≡ Entry.Is t p → {z : Scan} {ws : List ℕ} {r : (Result ⊤ Refusal)} → Fills z ws r
    → Fills (cons_token (tok t p) z) (w ∷ ws) r
fills-more {w} {t} {p} q (filled {s = ws} e) = filled (list-is w ws q ∙ ap (λ (us : List Tok). tok t p ∷ us) e)
fills-more q stopped = stopped

-- a word of a token, or of none, among such words
one_more : (s : List ℕ) (n : ℕ) {w : ℕ} → TokenWord w → TokenWords s → TokenWords (set s n w)
one_more [] n k all i = all i
one_more (x ∷ xs) zero k all zero = k
one_more (x ∷ xs) zero k all (suc i) = all (suc i)
one_more (x ∷ xs) (suc n) k all zero = all 0
one_more (x ∷ xs) (suc n) k all (suc i) = one_more xs n k (λ j. all (suc j)) i

-- the first n words of the table, which was o, hold what was found before a position: what fills the rest behind them fills the whole
pub record Filling (s o table : List ℕ) (at n : ℕ) : Type 0 where
  pub within : at ≤ length s
  pub room : n ≤ at
  pub size : length table ≡ length o
  pub goes : (u : List ℕ) (r : (Result ⊤ Refusal)) → Fills (rest s at) u r → Fills (scan s) (take n table ++ u) r
  pub all : TokenWords o → TokenWords table

pub begin : (s o : List ℕ) → Filling s o o 0 0
begin s o = record { within = omega arith; room = omega arith; size = refl; goes = λ u r h. h; all = λ h. h }

-- what is promised of a table that was o
abbrev pub Promised : List ℕ → List ℕ → List ℕ → Result ⊤ Refusal → Type 0
Promised s o table r = (length table ≡ length o) × (Fills (scan s) table r × (TokenWords o → TokenWords table))

-- ---- the word that was found, and where it goes
-- a token at a position
record Token-at (s : List ℕ) (at w e : ℕ) : Type 0 where
  t : Token
  is : lexeme_at s at ≡ Found t at e
  word : w ≡ pack_token t 0

no-class : (a : ℕ) → word_class (pack_fields 0 0 a 0) ≡ 0
no-class a = omega arith

is-answer : (a : ℕ) → word_number (pack_fields 0 0 a 0) ≡ a
is-answer a = omega arith

module _ (s : List ℕ) (at : ℕ) (q : at + blanks s at ≡ at) where
  token-there : {x : Lexeme} {w e : ℕ} → Lexes x w e → lexeme_at s at ≡ x → (word_class w ≡ 0 → ⊥) → Token-at s at w e
  token-there (found t p e) m z =
      record { t = t; is = m ∙ ap (λ (k : ℕ). Found t k e) ((found_at s at m).place ∙ q); word = refl }
  token-there (wrong a p e) m z = absurd (z (no-class a))

  none-there : {x : Lexeme} {w e : ℕ} → Lexes x w e → lexeme_at s at ≡ x → word_class w ≡ 0 → lexeme_at s at ≡ Wrong (word_number w) at
  none-there (found t p e) m z = absurd (some-class (known-sound (known s at m)) 0 (lit< tt) z)
  none-there (wrong a p e) m z =
      m ∙ ap (λ (k : ℕ). Wrong k p) (sym (is-answer a)) ∙ ap (Wrong (word_number (pack_fields 0 0 a 0))) ((wrong-at s at m).0 ∙ q)

-- the place of a word without one
placed : (t : Token) (p : ℕ) → pack_token t 0 + 65536 * p ≡ pack_token t p
placed (Number (Int z)) p = omega arith
placed (Number (Real x)) p = omega arith
placed (Cell b i) p = omega arith
placed (Letter b) p = omega arith
placed (Name f) p = omega arith
placed (Symbol n) p = omega arith

module _ {s o table : List ℕ} {at n : ℕ} (h : Filling s o table at n) (short : length s ≤ 1024) (fits : length s < length o) where
  pub ends : length s ≤ at → Promised s o (set table n 0) (Ok tt)
  unfolding lexeme_of
  ends l =
      let free : n < length table = omega (arith, h.room, h.size, h.within) in
      let past : length s ≤ at + blanks s at = omega arith in
      let m : lexeme_at s at ≡ End = rw (drop_of_length-le s past) in
      let last = filled (list-end 0 (drop (suc n) table) blank-end) in (
        length-set table n 0 ∙ h.size,
        (
          rw (set_split table n 0 free) (h.goes (0 ∷ drop (suc n) table) (Ok tt) (rw (at-end s at m) last)),
          λ b. one_more table n blank (h.all b),
        ),
      )

  module _ (i : at < length s) where
    pub skips : is_space (get_or s at 0) ≡ true → Filling s o table (at + 1) n
    skips b =
        record {
          within = omega arith;
          room = omega (arith, h.room);
          size = h.size;
          goes = λ u r g. h.goes u r (rw (at-blank s at i b) g);
          all = h.all;
        }

    module _ (b : is_space (get_or s at 0) ≡ false) {w e : ℕ} (l : Lexes (lexeme_of (drop at s) at) w e) where
      here : Lexes (lexeme_at s at) w e
      here = rw (at_once s at i b) l

      pub stops : word_class w ≡ 0 → Promised s o table (Err (refusal (word_number w) at))
      stops z =
          let m = none-there s at (no-blank s at i b) here refl z in
          (h.size, (rw (← take-append-drop n table) (h.goes (drop n table) (Err (refusal (word_number w) at)) (rw (at-wrong s at m) stopped)), h.all))

      module _ (z : word_class w ≡ 0 → ⊥) where
        token : Token-at s at w e
        token = token-there s at (no-blank s at i b) here refl z

        lies : Lies s at at e
        lies = found_at s at token.is

        sound : Sound token.t
        sound = known-sound (known s at token.is)

        near : at < 65536
        near = omega arith

        pub has_room : w < 2 ^ 64 → w + 65536 * at < 2 ^ 64
        has_room k =
            let f : word_place w ≡ 0 = ap word_place token.word ∙ place-packed sound 0 (lit< tt) in
            omega (arith, near)

        pub moves-on : length s - e < length s - at
        moves-on = omega (arith, lies.some, lies.inside)

        pub goes_on : Filling s o (set table n (w + 65536 * at)) e (n + 1)
        goes_on =
            let t = token.t in
            let v = w + 65536 * at in
            let k : v ≡ pack_token t at = ap (λ (i : ℕ). i + 65536 * at) token.word ∙ placed t at in
            let free : n < length table = omega (arith, h.room, h.size, h.within) in
            let next : take (n + 1) (set table n v) ≡ take n table ++ (v ∷ []) = rw (add-one n) (take-suc-set table n v free) in
            record {
              within = lies.inside;
              room = omega (arith, h.room, lies.some);
              size = length-set table n v ∙ h.size;
              goes = λ u r g. rw (next, append_snoc (take n table) v u) (h.goes (v ∷ u) r
                  (rw (at-found s at token.is) (fills-more (ap entry_of k ∙ unpacked sound at near) g)));
              all = λ b. rw k (one_more table n (TokenWord.token t at sound near) (h.all b));
            }
