-- Cards put one behind the other, and what writing leaves in the buffer. Assumes nothing.
use mathlib.Core.Path.{◌≡◌, refl, sym, ap, subst, ◌∙◌}
use mathlib.Core.Bool.{Bool, true, false, cond}
use mathlib.Core.List.{List, [], ◌∷◌, ◌++◌, append-nil, append_assoc}
use Prim.Native.Nat.{ℕ, suc, ◌+◌, ◌-◌, ◌≤◌}
use native.Mathlib.Omega.{arith}
use lib.Dec.{leb, ltb}
use lib.ListN.{length, take, drop, length-append}
use lib.Seq.{sets, sets-eq, take-length, take_at, drop_at, length-take-le, length-sets}
use borrow.Author.Tests.{leb-true, leb-false, lt-ltb, le-ltb}
use Rattle.lines.specs.Printing.{low_digits, decimal_text}
use Rattle.lines.specs.private.Steps.{Puts}
use Rattle.lines.proofs.Stores.{then, as-text}
use Rattle.card_laws.specs.Lines.{ended}
use Rattle.card_laws.specs.Cards.{Card, card, card_key, target_key, expr_key, check_key, card_line, check_of, checked_lines, check_text}
use Rattle.card_laws.specs.Cards.{card_bytes, cards_bytes}
use Rattle.card_laws.specs.Writing.{CardsWritten, done, unwritten, written_bytes, write_from}
use Rattle.card_laws.specs.Formulas.{formula_answer}
use Rattle.card_laws.proofs.Cards.{ended-append}
use Rattle.card_laws.proofs.Reading.{cards-append}
use Rattle.card_laws.proofs.Writing.{from_is}
use Rattle.card_write.specs.declared.Judged.{Judged}
use Rattle.card_write.specs.declared.Written.{Written}
use Rattle.card_write.specs.Given.{cards_in, writing, written_in}
use Rattle.card_write.specs.private.Places.{cards_of, judged_in, judged_cards}
use Rattle.card_write.proofs.Sizes.{from, Left, nothing_left}

-- ---- what was put is there
pub put-part : {l m : List ℕ} {at b : ℕ} {s : List ℕ} → Puts l at m b s → at + length s ≤ length l → take (b - at) (drop at m) ≡ s
put-part {l} {m} {at} {b} {s} p h =
    let e : m ≡ take at l ++ (s ++ drop (at + length s) l) = p.bytes ∙ sets-eq s l at h ∙ append_assoc (take at l) s (drop (at + length s) l) in
    let n : b - at ≡ length s = omega (arith, p.end) in
    ap (λ (x : List ℕ). take (b - at) (drop at x)) e ∙ ap (take (b - at))
    (drop_at (take at l) (s ++ drop (at + length s) l) at (length-take-le at l (omega arith)))
    ∙ take_at s (drop (at + length s) l) (b - at) (sym n)

-- ---- the lines of a card
pub lines_of : (t e : List ℕ) → (((target_key ++ t) ++ (10 ∷ expr_key)) ++ e) ++ (10 ∷ []) ≡ checked_lines t e
lines_of t e =
    append_assoc ((target_key ++ t) ++ (10 ∷ expr_key)) e (10 ∷ []) ∙ append_assoc (target_key ++ t) (10 ∷ expr_key) (e ++ 10 ∷ [])

pub card-of : (n : ℕ) (t e ds : List ℕ) → ds ≡ check_text t e
    → (((((card_key ++ decimal_text n) ++ (10 ∷ [])) ++ checked_lines t e) ++ check_key) ++ ds) ++ (10 ∷ []) ≡ card_bytes (card n t e)
card-of n t e ds q =
    append_assoc (((card_line n ++ (10 ∷ [])) ++ checked_lines t e) ++ check_key) ds (10 ∷ [])
    ∙ append_assoc ((card_line n ++ (10 ∷ [])) ++ checked_lines t e) check_key (ds ++ 10 ∷ [])
    ∙ append_assoc (card_line n ++ (10 ∷ [])) (checked_lines t e) (check_key ++ (ds ++ 10 ∷ []))
    ∙ append_assoc (card_line n) (10 ∷ []) (checked_lines t e ++ (check_key ++ (ds ++ 10 ∷ [])))
    ∙ ap (ended (card_line n)) (ended-append (target_key ++ t) (ended (expr_key ++ e) []) (ended (check_key ++ ds) [])
    ∙ ap (ended (target_key ++ t)) (ended-append (expr_key ++ e) [] (ended (check_key ++ ds) [])))
    ∙ ap (λ (k : List ℕ). ended (card_line n) (ended (target_key ++ t) (ended (expr_key ++ e) (ended (check_key ++ k) [])))) q

-- the digits of the lines that stand in the buffer
pub digits_of : (t e : List ℕ) {x ds : List ℕ} {sum : ℕ} → x ≡ checked_lines t e → sum ≡ check_of x → ds ≡ low_digits 10 5 sum → ds ≡ check_text t e
unfolding check_text
digits_of t e p q r = r ∙ ap (low_digits 10 5) (q ∙ ap check_of p)

-- ---- card after card
pub record Putting (texts : List ℕ) (ws : List (List ℕ)) (old now : List ℕ) (at k : ℕ) : Type 0 where
  pub cards : List Card
  pub put : Puts old 0 now at (cards_bytes cards)
  pub whole : cards_of texts ws ≡ cards ++ from texts ws k

pub start : (texts : List ℕ) (ws : List (List ℕ)) (old : List ℕ) → Putting texts ws old old 0 0
start texts ws old = record { cards = []; put = record { bytes = refl; end = refl }; whole = refl }

module _ {texts : List ℕ} {ws : List (List ℕ)} {old now : List ℕ} {at k : ℕ} (p : Putting texts ws old now at k) where
  -- the next card has room
  pub room : {n : ℕ} {t e : List ℕ} → Left texts ws k n t e → length (cards_bytes (cards_of texts ws)) ≤ length old
      → at + length (card_bytes (card n t e)) ≤ length old
  room {n} {t} {e} l h =
      let rest : List Card = from texts ws (k + 1) in
      let size : length (cards_bytes (cards_of texts ws)) ≡ length (cards_bytes p.cards) + (length (card_bytes (card n t e)) + length (cards_bytes rest)) =
      ap (λ (cs : List Card). length (cards_bytes cs)) (p.whole ∙ ap (λ (cs : List Card). p.cards ++ cs) l.here)
      ∙ ap length (cards-append p.cards (card n t e ∷ rest))
      ∙ length-append (cards_bytes p.cards) (card_bytes (card n t e) ++ cards_bytes rest)
      ∙ ap (λ (i : ℕ). length (cards_bytes p.cards) + i) (length-append (card_bytes (card n t e)) (cards_bytes rest)) in
      omega (arith, p.put.end)

  pub next : {new : List ℕ} {at' n : ℕ} {t e : List ℕ} → Left texts ws k n t e → Puts now at new at' (card_bytes (card n t e))
      → Putting texts ws old new at' (k + 1)
  next {new} {at'} {n} {t} {e} l q =
      let more : List Card = card n t e ∷ [] in
      record {
        cards = p.cards ++ more;
        put = as-text (ap (λ (s : List ℕ). cards_bytes p.cards ++ s) (sym (append-nil (card_bytes (card n t e)))) ∙ sym (cards-append p.cards more))
            (then p.put q);
        whole = p.whole ∙ ap (λ (cs : List Card). p.cards ++ cs) l.here ∙ sym (append_assoc p.cards more (from texts ws (k + 1)));
      }

  pub end : length ws ≤ k → now ≡ sets old 0 (cards_bytes (cards_of texts ws))
  end h =
      let e : cards_of texts ws ≡ p.cards = p.whole ∙ ap (λ (cs : List Card). p.cards ++ cs) (nothing_left texts ws k h) ∙ append-nil p.cards in
      p.put.bytes ∙ ap (λ (cs : List Card). sets old 0 (cards_bytes cs)) (sym e)

  pub long : length now ≡ length old
  long = ap length p.put.bytes ∙ length-sets old 0 (cards_bytes p.cards)

-- ---- the whole, of rows that have all cards
module _ (out texts ws : List ℕ) (rows : List (List ℕ)) (b : cards_of texts rows ≡ cards_in texts ws) where
  abbrev Whole : CardsWritten
  Whole = writing texts ws out

  abbrev Result : Written → List ℕ → Type 0
  Result r new = (r ≡ written_in Whole) × (new ≡ written_bytes out Whole)

  abbrev Cards : List Card
  Cards = cards_of texts rows

  pub too_long : false ≡ leb (length (cards_bytes Cards)) (length out) → Result (record { answer = 10; place = 0; length = 0 }) out
  too_long e =
      let size : ℕ = length (cards_bytes (cards_in texts ws)) in
      let f : leb size (length out) ≡ false = sym (e ∙ ap (λ (cs : List Card). leb (length (cards_bytes cs)) (length out)) b) in
      let t : ltb (length out) size ≡ true = lt-ltb (length out) size (leb-false size (length out) f) in
      (rw t, rw t)

  module _ (e : true ≡ leb (length (cards_bytes Cards)) (length out)) {j : Judged} (q : j ≡ judged_cards texts rows) where
    room_for : length (cards_bytes Cards) ≤ length out
    room_for = leb-true (length (cards_bytes Cards)) (length out) (sym e)

    fits : Whole ≡ write_from formula_answer 0 0 Cards (cards_bytes Cards)
    fits =
        let h : length (cards_bytes (cards_in texts ws)) ≤ length out = subst (λ (cs : List Card). length (cards_bytes cs) ≤ length out) b room_for in
        ap (λ (t : Bool). cond t (unwritten 10 0) (write_from formula_answer 0 0 (cards_in texts ws) (cards_bytes (cards_in texts ws))))
        (le-ltb (length out) (length (cards_bytes (cards_in texts ws))) h)
        ∙ ap (λ (cs : List Card). write_from formula_answer 0 0 cs (cards_bytes cs)) (sym b)

    -- what is put: all rows, or none
    abbrev put_rows : List (List ℕ)
    put_rows = take j.cards rows

    all_put : j.cards ≡ length rows → put_rows ≡ rows
    all_put i = ap (λ (n : ℕ). take n rows) i ∙ take-length rows

    none_put : j.cards ≡ 0 → put_rows ≡ []
    none_put i = ap (λ (n : ℕ). take n rows) i

    pub few : j.cards ≤ length rows
    few = by (write_from formula_answer 0 0 Cards (cards_bytes Cards)) q
      where
        by : (w : CardsWritten) → j ≡ judged_in (length rows) w → j.cards ≤ length rows
        by (done s) i = omega (arith, ap (λ (x : Judged). x.cards) i)
        by (unwritten a p) i = omega (arith, ap (λ (x : Judged). x.cards) i)

    pub small : length (cards_bytes (cards_of texts put_rows)) ≤ length out
    small = by (write_from formula_answer 0 0 Cards (cards_bytes Cards)) q
      where
        size : {r : List (List ℕ)} → put_rows ≡ r → length (cards_bytes (cards_of texts put_rows)) ≡ length (cards_bytes (cards_of texts r))
        size i = ap (λ (r : List (List ℕ)). length (cards_bytes (cards_of texts r))) i

        by : (w : CardsWritten) → j ≡ judged_in (length rows) w → length (cards_bytes (cards_of texts put_rows)) ≤ length out
        by (done s) i = omega (arith, size (all_put (ap (λ (x : Judged). x.cards) i)), room_for)
        by (unwritten a p) i = omega (arith, size (none_put (ap (λ (x : Judged). x.cards) i)))

    pub judged-so : {new : List ℕ} → new ≡ sets out 0 (cards_bytes (cards_of texts put_rows))
        → Result (record { answer = j.answer; place = j.place; length = j.length }) new
    judged-so {new} u = by (write_from formula_answer 0 0 Cards (cards_bytes Cards)) refl q
      where
        put : {r : List (List ℕ)} → put_rows ≡ r → new ≡ sets out 0 (cards_bytes (cards_of texts r))
        put i = u ∙ ap (λ (r : List (List ℕ)). sets out 0 (cards_bytes (cards_of texts r))) i

        words : {w : CardsWritten} → Whole ≡ w → j ≡ judged_in (length rows) w
            → ◌≡◌ {A = Written} (record { answer = j.answer; place = j.place; length = j.length }) (written_in Whole)
        words {w} f i = ap (λ (x : Judged). record { answer = x.answer; place = x.place; length = x.length }) i ∙ same w ∙ ap written_in (sym f)
          where
            same : (w : CardsWritten) → ◌≡◌ {A = Written} (record {
              answer = (judged_in (length rows) w).answer;
              place = (judged_in (length rows) w).place;
              length = (judged_in (length rows) w).length;
            }) (written_in w)
            same (done s) = refl
            same (unwritten a p) = refl

        by : (w : CardsWritten) → write_from formula_answer 0 0 Cards (cards_bytes Cards) ≡ w → j ≡ judged_in (length rows) w
            → Result (record { answer = j.answer; place = j.place; length = j.length }) new
        by (unwritten a p) g i = (words (fits ∙ g) i, put (none_put (ap (λ (x : Judged). x.cards) i)) ∙ sym (ap (written_bytes out) (fits ∙ g)))
        by (done s) g i =
            let y : cards_bytes Cards ≡ s = (from_is formula_answer 0 0 Cards (cards_bytes Cards) s g).same in
            (words (fits ∙ g) i, put (all_put (ap (λ (x : Judged). x.cards) i)) ∙ ap (sets out 0) y ∙ sym (ap (written_bytes out) (fits ∙ g)))

-- ---- lengths
pub put_length : {l m : List ℕ} {at b : ℕ} {s : List ℕ} → Puts l at m b s → length m ≡ length l
put_length {l} {m} {at} {b} {s} p = ap length p.bytes ∙ length-sets l at s

pub lines-size : (t e : List ℕ) → length (checked_lines t e) ≡ 14 + length t + length e
lines-size t e = omega (arith, length-append t (10 ∷ ended (expr_key ++ e) []), length-append e (10 ∷ []))
