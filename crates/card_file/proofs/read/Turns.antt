-- Reading card after card: what was read so far, and what the rest gives. Assumes nothing.
use mathlib.Core.Path.{◌≡◌, refl, sym, ap, subst, ◌∙◌}
use mathlib.Core.Bool.{true}
use mathlib.Core.List.{List, [], ◌∷◌, ◌++◌, append-nil, append_assoc}
use Prim.Native.Nat.{ℕ, suc, ◌+◌, ◌-◌, ◌*◌, ◌≤◌, ◌<◌}
use native.Mathlib.Nat.{add-zero}
use native.Mathlib.Omega.{arith}
use lib.ListN.{length, take, drop, set, replicate, length-append, length-drop, length-replicate, drop_of_length-le}
use lib.Seq.{sets, set_comm, drop_at, drop-drop, length-sets}
use Rattle.std.specs.Prelude.{Some, Ok, Err}
use Rattle.words.proofs.Lists.{rest_of}
use Rattle.lines.specs.Printing.{width_of}
use Rattle.lines.specs.private.Steps.{Puts}
use Rattle.lines.proofs.Stores.{then}
use Rattle.card_laws.specs.Cards.{Card, card, number_of, card_bytes, cards_bytes, Form, formed, out, card_form}
use Rattle.card_laws.specs.Reading.{CardRead, taken, refused, good, bad, then_cards, last_of, judged, read_card, read_from}
use Rattle.card_laws.specs.Reading.{read_cards, GoodCard, Valid, none, next}
use Rattle.card_laws.specs.Formulas.{formula_answer}
use Rattle.card_laws.proofs.Formulas.{judge-laws}
use Rattle.card_laws.proofs.Cards.{Judged, judged-is, Stands, card-is}
use Rattle.card_laws.proofs.Reading.{step, end, also_cards, also-good, also-bad, also-append, last-append, cards-append, card-size, card-some}
use Rattle.card_laws.proofs.Reading.{valid-append, Sizes, sizes, good-size, not-nothing}
use Rattle.card_file.specs.declared.form.FourLines.{FourLines}
use Rattle.card_file.specs.Spans.{card_places, spans, places_in}
use Rattle.card_file.specs.Words.{card_words, cards_words, read_words, span_words, SmallSpans}
use Rattle.card_file.proofs.judging.Parts.{Parts, parts}

-- ---- a card that was judged good
pub record Taken (d : List ℕ) (last : ℕ) (f : FourLines) : Type 0 where
  pub c : Card
  pub r : List ℕ
  pub read : read_card formula_answer last d ≡ taken c r
  pub bytes : d ≡ card_bytes c ++ r
  pub good : GoodCard formula_answer last c
  pub number : f.number ≡ number_of c
  pub end : f.end ≡ length (card_bytes c)
  pub words : (at : ℕ) → span_words at f ≡ card_words at c
  pub order : (f.target + 6 ≤ f.expr) × (f.expr + 7 ≤ f.check) × (f.check ≤ f.end)

places-taken : (x : CardRead) {f : FourLines} → Ok f ≡ places_in x → (c : Card) × (r : List ℕ) × (x ≡ taken c r) × (f ≡ card_places c)
places-taken (taken c r) {f} e = (c, r, refl, cc)
places-taken (refused a) e = absurd (let z : ◌≡◌ {A = ℕ} 0 1 = cc in omega arith)

-- a card that is taken stands in its form
in_form : (d : List ℕ) (last : ℕ) (f : FourLines) → Ok f ≡ places_in (judged formula_answer last (card_form d)) → Some f ≡ spans (card_form d)
unfolding spans judged
in_form d last f v = go (card_form d) v
  where
    go : (x : Form) → Ok f ≡ places_in (judged formula_answer last x) → Some f ≡ spans x
    go out w = absurd (let z : ◌≡◌ {A = ℕ} 0 1 = cc in omega arith)
    go (formed n t e k r) w =
        let q = places-taken (judged formula_answer last (formed n t e k r)) w in
        let j : Judged formula_answer last n t e k r q.0 q.1 = judged-is formula_answer last n t e k r q.0 q.1 q.2 in
        ap Some (q.3 ∙ ap card_places (sym j.card-is))

pub card-taken : (d : List ℕ) (last : ℕ) (f : FourLines) → Ok f ≡ places_in (judged formula_answer last (card_form d)) → Taken d last f
card-taken d last f v =
    let p : Parts d f = parts d f (in_form d last f v) in
    let q = places-taken (judged formula_answer last (card_form d)) v in
    let s : Stands formula_answer last d q.0 q.1 = card-is formula_answer last d q.0 q.1 q.2 in
    let j : Judged formula_answer last p.n p.t p.e p.k p.r q.0 q.1 =
    judged-is formula_answer last p.n p.t p.e p.k p.r q.0 q.1 (ap (judged formula_answer last) (sym p.form) ∙ q.2) in
    let i : card p.n p.t p.e ≡ q.0 = j.card-is in
    let a : f.expr - 6 - f.target ≡ length p.t = omega (arith, p.target_at, p.expr-at) in
    let b : f.check - 7 - f.expr ≡ length p.e = omega (arith, p.expr-at, p.check-at) in
    let w : ℕ = width_of p.n in
    let g : f.target ≡ 13 + w = p.target_at in
    let h : f.expr ≡ 19 + w + length p.t = p.expr-at in
    let words : (at : ℕ) → span_words at f ≡ card_words at (card p.n p.t p.e) = λ at. row at p.t p.e p.n p.number g a h b in
    record {
      c = q.0;
      r = q.1;
      read = q.2;
      bytes = s.bytes;
      good = s.good;
      number = p.number ∙ ap number_of i;
      end = p.end-at ∙ sym (card-size p.n p.t p.e) ∙ ap (λ (c : Card). length (card_bytes c)) i;
      words = λ at. words at ∙ ap (card_words at) i;
      order = (omega (arith, g, h), omega (arith, h, p.check-at), omega (arith, p.check-at, p.end-at));
    }
  where
    row : (at : ℕ) (a b : List ℕ) (n : ℕ) → f.number ≡ n → f.target ≡ 13 + width_of n → f.expr - 6 - f.target ≡ length a
        → f.expr ≡ 19 + width_of n + length a → f.check - 7 - f.expr ≡ length b
        → span_words at f ≡ card_words at (card n a b)
    row at a b n p q r s t =
        let u : at + f.target ≡ at + (5 + width_of n + 1 + 7) = omega arith in
        let v : at + f.expr ≡ at + (5 + width_of n + 1 + 7 + length a + 1 + 5) = omega arith in
        rw (p, u, r, v, t)

-- ---- words behind words
words_append : (at : ℕ) (ks bs : List Card) → cards_words at (ks ++ bs) ≡ cards_words at ks ++ cards_words (at + length (cards_bytes ks)) bs
words_append at [] bs = ap (λ (n : ℕ). cards_words n bs) (sym (add-zero at))
words_append at (k ∷ ks) bs =
    let e : at + length (card_bytes k) + length (cards_bytes ks) ≡ at + length (card_bytes k ++ cards_bytes ks) =
    omega (arith, length-append (card_bytes k) (cards_bytes ks)) in
    ap (λ (l : List ℕ). card_words at k ++ l) (words_append (at + length (card_bytes k)) ks bs
    ∙ ap (λ (n : ℕ). cards_words (at + length (card_bytes k)) ks ++ cards_words n bs) e)
    ∙ sym (append_assoc (card_words at k) (cards_words (at + length (card_bytes k)) ks) (cards_words (at + length (card_bytes k ++ cards_bytes ks)) bs))

pub words_count : (at : ℕ) (cs : List Card) → length (cards_words at cs) ≡ 5 * length cs
words_count at [] = refl
words_count at (card n t e ∷ cs) = omega (arith, words_count (at + length (card_bytes (card n t e))) cs)

-- a word before others may be set last
set_before : (l : List ℕ) (i : ℕ) (vs : List ℕ) (j a : ℕ) → j < i → set (sets l i vs) j a ≡ sets (set l j a) i vs
set_before l i [] j a h = refl
set_before l i (v ∷ vs) j a h = set_before (set l i v) (suc i) vs j a (omega arith)
    ∙ ap (λ (m : List ℕ). sets m (suc i) vs) (set_comm l i j v a (λ e. omega arith))

-- ---- the loop
pub record Reading (file words : List ℕ) (at to last count : ℕ) : Type 0 where
  pub cards : List Card
  pub fuel : ℕ
  pub valid : Valid formula_answer 0 cards
  pub before : at ≡ length (cards_bytes cards)
  pub inside : at ≤ length file
  pub last-is : last ≡ last_of 0 cards
  pub count-is : count ≡ length cards
  pub enough : length (drop at file) ≤ fuel
  pub rest : read_cards formula_answer file ≡ also_cards cards (read_from formula_answer fuel last at (drop at file))
  pub stored : Puts (replicate 323 0) 3 words to (cards_words 0 cards)

pub start : (file words : List ℕ) → words ≡ replicate 323 0 → Reading file words 0 3 0 0
start file words e =
    record {
      cards = [];
      fuel = length file;
      valid = none;
      before = refl;
      inside = omega arith;
      last-is = refl;
      count-is = refl;
      enough = omega arith;
      rest = refl;
      stored = record { bytes = e; end = refl };
    }

pub record Bounds (at to last count : ℕ) : Type 0 where
  pub last-low : last ≤ 64
  pub count_low : count ≤ last
  pub at_low : at ≤ 2082 * last
  pub to_is : to ≡ 3 + 5 * count

pub bounds : {file words : List ℕ} {at to last count : ℕ} → Reading file words at to last count → Bounds at to last count
bounds {file} {words} {at} {to} {last} {count} g =
    let z : Sizes formula_answer judge-laws 0 g.cards = sizes formula_answer judge-laws g.valid in
    record {
      last-low = omega (arith, g.last-is, z.most (omega arith));
      count_low = omega (arith, g.last-is, g.count-is, z.rises);
      at_low = omega (arith, g.before, g.last-is, z.bytes);
      to_is = omega (arith, g.stored.end, words_count 0 g.cards, g.count-is);
    }

fuel-some : (file : List ℕ) (at fuel : ℕ) → at < length file → length (drop at file) ≤ fuel → fuel ≡ suc (fuel - 1)
fuel-some file at fuel h e = omega (arith, length-drop at file)

one_more : {file words : List ℕ} {at to last count : ℕ} → (g : Reading file words at to last count) → at < length file
    → read_cards formula_answer file ≡ also_cards g.cards (then_cards at (read_card formula_answer last (drop at file))
    (λ c r. read_from formula_answer (g.fuel - 1) (number_of c) (at + length (card_bytes c)) r))
one_more {file} {words} {at} {to} {last} {count} g h =
    g.rest ∙ ap (λ (k : ℕ). also_cards g.cards (read_from formula_answer k last at (drop at file))) (fuel-some file at g.fuel h g.enough)
    ∙ ap (also_cards g.cards) (step formula_answer (g.fuel - 1) last at (drop at file) (not-nothing (drop at file) (omega (arith, length-drop at file))))

pub stopped : {file words : List ℕ} {at to last count a : ℕ} → (g : Reading file words at to last count) → at < length file
    → Err a ≡ places_in (judged formula_answer last (card_form (drop at file))) → read_words (bad a at) ≡ read_words (read_cards formula_answer file)
stopped {file} {words} {at} {to} {last} {count} {a} g h v =
    ap read_words (sym (one_more g h ∙ ap (λ (x : CardRead). also_cards g.cards
    (then_cards at x (λ c r. read_from formula_answer (g.fuel - 1) (number_of c) (at + length (card_bytes c)) r)))
    (by (read_card formula_answer last (drop at file)) v) ∙ also-bad g.cards a at))
  where
    by : (x : CardRead) → Err a ≡ places_in x → x ≡ refused a
    by (taken c r) e = absurd (let z : ◌≡◌ {A = ℕ} 0 1 = cc in omega arith)
    by (refused b) e = let q : a ≡ b = cc in ap refused (sym q)

pub small : {file words : List ℕ} {at to last count : ℕ} (g : Reading file words at to last count) {f : FourLines} (t : Taken (drop at file) last f)
    → SmallSpans at f
small g {f} t =
    let b = bounds g in
    let z = good-size formula_answer judge-laws t.good in
    record { target = t.order.0; expr = t.order.1; small = omega (arith, b.at_low, b.last-low, z.2, t.end, t.order.2) }

pub again : {file words words' : List ℕ} {at to last count to' : ℕ} (g : Reading file words at to last count) → at < length file
    → {f : FourLines} (t : Taken (drop at file) last f)
    → Puts words to words' to' (span_words at f) → Reading file words' (at + f.end) to' f.number (count + 1)
again {file} {words} {words'} {at} {to} {last} {count} {to'} g h {f} t p =
    let more : List Card = t.c ∷ [] in
    let size : length (cards_bytes more) ≡ length (card_bytes t.c) = ap length (append-nil (card_bytes t.c)) in
    let e : at + f.end ≡ length (cards_bytes (g.cards ++ more)) = omega
    (arith, g.before, t.end, ap length (cards-append g.cards more), length-append (cards_bytes g.cards) (cards_bytes more), size) in
    let d : drop (at + f.end) file ≡ t.r = sym (drop-drop f.end at file) ∙ ap (drop f.end) t.bytes
    ∙ drop_at (card_bytes t.c) t.r f.end (sym t.end) in
    let l : at + f.end ≡ at + length (card_bytes t.c) = omega (arith, t.end) in
    let good : GoodCard formula_answer (last_of 0 g.cards) t.c = subst (λ (n : ℕ). GoodCard formula_answer n t.c) g.last-is t.good in
    record {
      cards = g.cards ++ more;
      fuel = g.fuel - 1;
      valid = valid-append formula_answer g.valid (next good none);
      before = e;
      inside = omega (arith, t.end, ap length t.bytes, length-append (card_bytes t.c) t.r, length-drop at file);
      last-is = t.number ∙ sym (last-append 0 g.cards more);
      count-is = omega (arith, g.count-is, length-append g.cards more);
      enough = omega (arith, g.enough, length-drop at file, length-drop (at + f.end) file, t.end, card-some t.c);
      rest =
          one_more g h ∙ ap (λ (x : CardRead). also_cards g.cards (then_cards at x
          (λ c r. read_from formula_answer (g.fuel - 1) (number_of c) (at + length (card_bytes c)) r))) t.read
          ∙ sym (also-append g.cards more (read_from formula_answer (g.fuel - 1) (number_of t.c) (at + length (card_bytes t.c)) t.r))
          ∙ ap (λ (n : ℕ). also_cards (g.cards ++ more) (read_from formula_answer (g.fuel - 1) n (at + length (card_bytes t.c)) t.r)) (sym t.number)
          ∙ ap (λ (n : ℕ). also_cards (g.cards ++ more) (read_from formula_answer (g.fuel - 1) f.number n t.r)) (sym l)
          ∙ ap (λ (s : List ℕ). also_cards (g.cards ++ more) (read_from formula_answer (g.fuel - 1) f.number (at + f.end) s)) (sym d);
      stored =
          subst (λ (s : List ℕ). Puts (replicate 323 0) 3 words' to' s)
          (ap (λ (s : List ℕ). cards_words 0 g.cards ++ s) (t.words at ∙ sym (append-nil (card_words at t.c))
          ∙ ap (λ (n : ℕ). cards_words n more) (g.before ∙ zero)) ∙ sym (words_append 0 g.cards more))
          (then g.stored p);
    }
  where
    zero : length (cards_bytes g.cards) ≡ 0 + length (cards_bytes g.cards)
    zero = omega arith

pub finished : {file words : List ℕ} {at to last count : ℕ} → (g : Reading file words at to last count) → length file ≤ at
    → set words 2 count ≡ read_words (read_cards formula_answer file)
unfolding read_words
finished {file} {words} {at} {to} {last} {count} g h =
    let r : read_cards formula_answer file ≡ good g.cards =
    g.rest ∙ ap (λ (s : List ℕ). also_cards g.cards (read_from formula_answer g.fuel last at s)) (drop_of_length-le file h)
    ∙ ap (also_cards g.cards) (end formula_answer g.fuel last at)
    ∙ also-good g.cards [] ∙ ap good (append-nil g.cards) in
    ap (λ (l : List ℕ). set l 2 count) g.stored.bytes ∙ set_before (replicate 323 0) 3 (cards_words 0 g.cards) 2 count (omega arith)
    ∙ ap (λ (n : ℕ). sets (set (replicate 323 0) 2 n) 3 (cards_words 0 g.cards)) g.count-is
    ∙ sym (ap read_words r)

-- ---- as the code has them: the rest of the file is a part of it
abbrev Rest : List ℕ → ℕ → List ℕ
Rest file at = take (length file - at) (drop at file)

pub taken_at : (file : List ℕ) (at last : ℕ) (f : FourLines) → Ok f ≡ places_in (judged formula_answer last (card_form (Rest file at)))
    → Taken (drop at file) last f
taken_at file at last f v =
    card-taken (drop at file) last f (v ∙ ap (λ (s : List ℕ). places_in (judged formula_answer last (card_form s))) (rest_of file at))

pub stopped-at : {file words : List ℕ} {at to last count a : ℕ} → Reading file words at to last count → at < length file
    → Err a ≡ places_in (judged formula_answer last (card_form (Rest file at))) → read_words (bad a at) ≡ read_words (read_cards formula_answer file)
stopped-at {file} {words} {at} {to} {last} g h v = stopped g h (v ∙ ap (λ (s : List ℕ). places_in (judged formula_answer last (card_form s)))
    (rest_of file at))

pub long : {file words : List ℕ} {at to last count : ℕ} → Reading file words at to last count → length words ≡ 323
long {file} {words} g = ap length g.stored.bytes ∙ length-sets (replicate 323 0) 3 (cards_words 0 g.cards) ∙ length-replicate {A = ℕ} 323 0

-- a card that is taken has room in the table
pub room : {file words : List ℕ} {at to last count : ℕ} → (g : Reading file words at to last count) → {f : FourLines} → Taken (drop at file) last f
    → to + 5 ≤ length words
room g t = let b = bounds g in let z = good-size formula_answer judge-laws t.good in omega (arith, b.to_is, b.count_low, z.0, z.1, long g)

-- ---- five words
pub put_five : (l : List ℕ) (to a b c d e : ℕ) → Puts l to (set (set (set (set (set l to a) (to + 1) b) (to + 2) c) (to + 3) d) (to + 4) e) (to + 5)
    (a ∷ b ∷ c ∷ d ∷ e ∷ [])
put_five l to a b c d e =
    let p : to + 1 ≡ suc to = omega arith in
    let q : to + 2 ≡ suc (suc to) = omega arith in
    let r : to + 3 ≡ suc (suc (suc to)) = omega arith in
    let s : to + 4 ≡ suc (suc (suc (suc to))) = omega arith in
    record { bytes = rw (p, q, r, s); end = refl }
