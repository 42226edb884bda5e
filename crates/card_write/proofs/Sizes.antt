-- Cards given by words, one after the other: their parts, their sizes, and their judgement. Assumes nothing.
use mathlib.Core.Path.{◌≡◌, refl, sym, ap, subst, ◌∙◌}
use mathlib.Core.Bool.{Bool, true, false}
use mathlib.Core.List.{List, [], ◌∷◌, ◌++◌, append-nil, append_assoc}
use Prim.Native.Nat.{ℕ, zero, suc, ◌+◌, ◌/◌, ◌≤◌, ◌<◌}
use native.Mathlib.Numerals.{add-one}
use native.Mathlib.Omega.{arith}
use lib.Dec.{eqb, leb}
use lib.ListN.{length, take, drop, get_or, length-append, drop_of_length-le}
use lib.Seq.{get_or-take, drop-cons, take_all}
use borrow.Author.Tests.{le-leb, lt-leb, eq-eqb, ne_eqb}
use Rattle.std.specs.Prelude.{Ok, Err}
use Rattle.std.specs.Simd.{first_chunks}
use Rattle.tokens.specs.Bytes.{run_len, all}
use Rattle.tokens.proofs.Runs.{run_length, run-every, run-stops}
use Rattle.tokens.specs.Theorems.{nothing}
use Rattle.lines.specs.Printing.{width_of}
use Rattle.lines.specs.Lines.{except}
use Rattle.card_laws.specs.Verdicts.{Verdict}
use Rattle.card_laws.specs.Lines.{lacks}
use Rattle.card_laws.specs.Cards.{Card, card, card_bytes, cards_bytes}
use Rattle.card_laws.specs.Reading.{last_of, GoodCard, Valid, none, next}
use Rattle.card_laws.specs.Writing.{unless_here, card_verdict, write_from}
use Rattle.card_laws.specs.Formulas.{formula_answer}
use Rattle.card_laws.proofs.Formulas.{judge-laws}
use Rattle.card_laws.proofs.Reading.{last-append, cards-append, card-size, valid-append, Sizes, sizes}
use Rattle.card_laws.proofs.Writing.{verdict-good}
use Rattle.card_write.specs.declared.Judged.{Judged}
use Rattle.card_write.specs.Given.{part, first_card, first_cards, cards_in}
use Rattle.card_write.specs.private.Places.{cards_of, judged_in, judged_cards}

-- ---- rows of five words
three : {n m : ℕ} {t u e f : List ℕ} → n ≡ m → t ≡ u → e ≡ f → card n t e ≡ card m u f
three p q r = cc

both : (texts : List ℕ) {a b n m : ℕ} → a ≡ b → n ≡ m → part texts a n ≡ part texts b m
both texts p q = cc

front : (texts ws : List ℕ) → first_card texts (take 5 ws) ≡ first_card texts ws
front texts ws =
    three (word 0 (omega arith)) (both texts (word 1 (omega arith)) (word 2 (omega arith))) (both texts (word 3 (omega arith)) (word 4 (omega arith)))
  where
    word : (i : ℕ) → i < 5 → get_or (take 5 ws) i 0 ≡ get_or ws i 0
    word i h = get_or-take 5 ws i 0 h

rows-of : (texts : List ℕ) (n : ℕ) (ws : List ℕ) → cards_of texts (first_chunks 5 n ws) ≡ first_cards texts n ws
rows-of texts zero ws = refl
rows-of texts (suc n) ws =
    ap (λ (c : Card). c ∷ cards_of texts (first_chunks 5 n (drop 5 ws))) (front texts ws)
    ∙ ap (λ (cs : List Card). first_card texts ws ∷ cs) (rows-of texts n (drop 5 ws))

-- the rows of all words
pub all_rows : (texts ws : List ℕ) {q : List (List ℕ)} → q ≡ first_chunks 5 (length ws / 5) ws → cards_of texts q ≡ cards_in texts ws
unfolding cards_in
all_rows texts ws e = ap (cards_of texts) e ∙ rows-of texts (length ws / 5) ws

-- ---- the card k of all, and those from k on
abbrev pub from : List ℕ → List (List ℕ) → ℕ → List Card
from texts ws k = cards_of texts (drop k ws)

pub record Left (texts : List ℕ) (ws : List (List ℕ)) (k n : ℕ) (t e : List ℕ) : Type 0 where
  pub here : from texts ws k ≡ card n t e ∷ from texts ws (k + 1)
  pub size : length (card_bytes (card n t e)) ≡ 32 + width_of n + length t + length e

pub left : {texts : List ℕ} {ws : List (List ℕ)} {k n : ℕ} {t e w : List ℕ} (d : List ℕ) → k < length ws → w ≡ get_or ws k d → n ≡ get_or w 0 0
    → t ≡ part texts (get_or w 1 0) (get_or w 2 0) → e ≡ part texts (get_or w 3 0) (get_or w 4 0) → Left texts ws k n t e
left {texts} {ws} {k} {n} {t} {e} {w} d h i p q r =
    let c : first_card texts (get_or ws k d) ≡ card n t e = sym (three p q r ∙ ap (first_card texts) i) in
    record {
      here = ap (cards_of texts) (drop-cons ws k d h) ∙ ap (λ (x : Card). x ∷ cards_of texts (drop (suc k) ws)) c
          ∙ ap (λ (j : ℕ). card n t e ∷ cards_of texts (drop j ws)) (sym (add-one k));
      size = card-size n t e;
    }

-- ---- the sizes: what is left of the room, with what is left of the cards, makes the whole
pub record Room (texts : List ℕ) (ws : List (List ℕ)) (room left k : ℕ) : Type 0 where
  pub total : left + length (cards_bytes (cards_of texts ws)) ≡ room + length (cards_bytes (from texts ws k))

pub room-start : (texts : List ℕ) (ws : List (List ℕ)) (room : ℕ) → Room texts ws room room 0
room-start texts ws room = record { total = refl }

rest-size : {texts : List ℕ} {ws : List (List ℕ)} {k : ℕ} {m : ℕ} {t e : List ℕ} → Left texts ws k m t e
    → length (cards_bytes (from texts ws k))
    ≡ 32 + width_of m + length t + length e + length (cards_bytes (from texts ws (k + 1)))
rest-size {texts} {ws} {k} {m} {t} {e} l =
    ap (λ (cs : List Card). length (cards_bytes cs)) l.here
    ∙ length-append (card_bytes (card m t e)) (cards_bytes (from texts ws (k + 1)))
    ∙ ap (λ (i : ℕ). i + length (cards_bytes (from texts ws (k + 1)))) l.size

pub no_room : {texts : List ℕ} {ws : List (List ℕ)} {room rest k : ℕ} {m : ℕ} {t e : List ℕ} → Room texts ws room rest k → Left texts ws k m t e
    → rest < 32 + width_of m + length t + length e → false ≡ leb (length (cards_bytes (cards_of texts ws))) room
no_room {texts} {ws} {room} r l h = sym (lt-leb (length (cards_bytes (cards_of texts ws))) room (omega (arith, r.total, rest-size l)))

pub room_next : {texts : List ℕ} {ws : List (List ℕ)} {room rest k : ℕ} {m : ℕ} {t e : List ℕ} → Room texts ws room rest k → Left texts ws k m t e → {rest' : ℕ}
    → rest ≡ rest' + (32 + width_of m + length t + length e) → Room texts ws room rest' (k + 1)
room_next r l e = record { total = omega (arith, r.total, rest-size l) }

pub nothing_left : (texts : List ℕ) (ws : List (List ℕ)) (k : ℕ) → length ws ≤ k → from texts ws k ≡ []
nothing_left texts ws k h = ap (cards_of texts) (drop_of_length-le ws h)

pub room-end : {texts : List ℕ} {ws : List (List ℕ)} {room rest k : ℕ} → Room texts ws room rest k → length ws ≤ k
    → true ≡ leb (length (cards_bytes (cards_of texts ws))) room
room-end {texts} {ws} {room} {rest} {k} r h =
    sym (le-leb (length (cards_bytes (cards_of texts ws))) room (omega (
      arith,
      r.total,
      ap (λ (cs : List Card). length (cards_bytes cs)) (nothing_left texts ws k h),
    )))

-- ---- one card
pub line-test : (s : List ℕ) {n : ℕ} → (n ≡ run_len (except 10) s) × (n ≤ length s) → eqb n (length s) ≡ lacks 10 s
line-test s {n} u = go (lacks 10 s) refl
  where
    go : (t : Bool) → lacks 10 s ≡ t → eqb n (length s) ≡ t
    go true q = eq-eqb n (length s) (u.0 ∙ ap (run_len (except 10)) (sym (append-nil s)) ∙ run_length (except 10) s [] q nothing)
    go false q = ne_eqb n (length s) (λ e. no_false (subst (λ (l : List ℕ). all (except 10) l ≡ true) (whole e) (run-every (except 10) s)))
      where
        whole : n ≡ length s → take (run_len (except 10) s) s ≡ s
        whole e = take_all (run_len (except 10) s) s (omega (arith, u.0))

        no_false : all (except 10) s ≡ true → ⊥
        no_false w = let z : ◌≡◌ {A = ℕ} 0 1 = cc in omega arith

-- ---- the judgement
pub record Judging (texts : List ℕ) (ws : List (List ℕ)) (at last k : ℕ) : Type 0 where
  pub cards : List Card
  pub valid : Valid formula_answer 0 cards
  pub before : at ≡ length (cards_bytes cards)
  pub last-is : last ≡ last_of 0 cards
  pub whole : cards_of texts ws ≡ cards ++ from texts ws k
  pub rest : (s : List ℕ) → write_from formula_answer 0 0 (cards_of texts ws) s ≡ write_from formula_answer last at (from texts ws k) s

pub judging-start : (texts : List ℕ) (ws : List (List ℕ)) → Judging texts ws 0 0 0
judging-start texts ws =
    record {
      cards = [];
      valid = none;
      before = refl;
      last-is = refl;
      whole = refl;
      rest = λ s. refl;
    }

pub judging-low : {texts : List ℕ} {ws : List (List ℕ)} {at last k : ℕ} → Judging texts ws at last k → at ≤ 133248
judging-low g = let z : Sizes formula_answer judge-laws 0 g.cards = sizes formula_answer judge-laws g.valid in
    omega (arith, g.before, z.bytes, z.most (omega arith))

one_more : {texts : List ℕ} {ws : List (List ℕ)} {at last k : ℕ} (j : Judging texts ws at last k) {m : ℕ} {t e : List ℕ} → Left texts ws k m t e → (s : List ℕ)
    → write_from formula_answer 0 0 (cards_of texts ws) s
    ≡ unless_here (card_verdict formula_answer last (card m t e)) at
    (write_from formula_answer m (at + length (card_bytes (card m t e))) (from texts ws (k + 1)) s)
one_more {texts} {ws} {at} {last} {k} j l s = j.rest s ∙ ap (λ (cs : List Card). write_from formula_answer last at cs s) l.here

pub refused-at : {texts : List ℕ} {ws : List (List ℕ)} {at last k a put : ℕ} → put ≡ 0 → Judging texts ws at last k → {m : ℕ} {t e : List ℕ} → Left texts ws k m t e
    → Err a ≡ card_verdict formula_answer last (card m t e)
    → ◌≡◌ {A = Judged} (record { answer = a; place = at; length = 0; cards = put }) (judged_cards texts ws)
refused-at {texts} {ws} {at} {last} {k} {a} zero-put j {m} {t} {e} l v =
    rw zero-put
    (ap (judged_in (length ws)) (sym (one_more j l (cards_bytes (cards_of texts ws))
    ∙ ap (λ (x : Verdict). unless_here x at (write_from formula_answer m (at + length (card_bytes (card m t e)))
    (from texts ws (k + 1)) (cards_bytes (cards_of texts ws)))) (sym v))))

pub judging-next : {texts : List ℕ} {ws : List (List ℕ)} {at last k : ℕ} → (j : Judging texts ws at last k) → {m : ℕ} {t e : List ℕ} → (l : Left texts ws k m t e)
    → Ok tt ≡ card_verdict formula_answer last (card m t e) → {at' : ℕ}
    → at' ≡ at + 32 + width_of m + length t + length e → Judging texts ws at' m (k + 1)
judging-next {texts} {ws} {at} {last} {k} j {m} {t} {e} l v {at'} sum =
    let c : Card = card m t e in
    let more : List Card = c ∷ [] in
    let to : at' ≡ at + length (card_bytes c) = omega (arith, l.size) in
    let size : length (cards_bytes more) ≡ length (card_bytes c) = ap length (append-nil (card_bytes c)) in
    let good : GoodCard formula_answer (last_of 0 j.cards) c = subst (λ (n : ℕ). GoodCard formula_answer n c) j.last-is
    (verdict-good formula_answer last c (sym v)) in
    record {
      cards = j.cards ++ more;
      valid = valid-append formula_answer j.valid (next good none);
      before = omega (arith, to, j.before, ap length (cards-append j.cards more), length-append (cards_bytes j.cards) (cards_bytes more), size);
      last-is = sym (last-append 0 j.cards more);
      whole = j.whole ∙ ap (λ (cs : List Card). j.cards ++ cs) l.here ∙ sym (append_assoc j.cards more (from texts ws (k + 1)));
      rest = λ s. one_more j l s
          ∙ ap (λ (x : Verdict). unless_here x at (write_from formula_answer m (at + length (card_bytes c))
          (from texts ws (k + 1)) s)) (sym v)
          ∙ ap (λ (n : ℕ). write_from formula_answer m n (from texts ws (k + 1)) s) (sym to);
    }

pub judging-end : {texts : List ℕ} {ws : List (List ℕ)} {at last k : ℕ} → Judging texts ws at last k → length ws ≤ k
    → ◌≡◌ {A = Judged} (record { answer = 0; place = 0; length = at; cards = length ws }) (judged_cards texts ws)
judging-end {texts} {ws} {at} {last} {k} j h =
    let n : from texts ws k ≡ [] = nothing_left texts ws k h in
    let all_of : cards_of texts ws ≡ j.cards = j.whole ∙ ap (λ (cs : List Card). j.cards ++ cs) n ∙ append-nil j.cards in
    let size : length (cards_bytes (cards_of texts ws)) ≡ at = ap (λ (cs : List Card). length (cards_bytes cs)) all_of ∙ sym j.before in
    sym (ap (judged_in (length ws)) (j.rest (cards_bytes (cards_of texts ws))
    ∙ ap (λ (cs : List Card). write_from formula_answer last at cs (cards_bytes (cards_of texts ws))) n)
    ∙ ap (λ (m : ℕ). record { answer = 0; place = 0; length = m; cards = length ws }) size)
