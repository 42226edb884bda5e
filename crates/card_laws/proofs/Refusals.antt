-- Each refusal has its reason, and each reason its refusal. Assumes nothing.
use mathlib.Core.Path.{◌≡◌, refl, sym, ap, subst, ◌∙◌}
use mathlib.Core.Bool.{Bool, true, false, cond}
use mathlib.Core.Logic.{◌⊎◌, inl, inr, ◌↔◌}
use mathlib.Core.List.{List, [], ◌∷◌, ◌++◌, append_assoc}
use Prim.Native.Nat.{ℕ, zero, suc, ◌+◌, ◌≤◌, ◌<◌}
use native.Mathlib.Nat.{add-zero}
use native.Mathlib.Omega.{arith}
use lib.Dec.{ltb}
use lib.ListN.{length, length-append}
use borrow.Author.Tests.{lt-ltb, le-ltb, ltb-true, ltb-false}
use Rattle.std.specs.Prelude.{Ok, Err}
use Rattle.tokens.specs.Symbols.{equal_bytes}
use Rattle.tokens.proofs.Same.{equal as same_bytes}
use Rattle.card_laws.specs.Cards.{Card, card, number_of, check_text, card_bytes, cards_bytes, Form, formed, out, card_form}
use Rattle.card_laws.specs.Verdicts.{Verdict}
use Rattle.card_laws.specs.Reading.{CardRead, taken, refused, unless_refused, judged, read_card, CardsRead, good, bad, also_card, then_cards}
use Rattle.card_laws.specs.Reading.{last_of, is_empty, read_from, read_cards, Valid, none, next}
use Rattle.card_laws.specs.Writing.{CardsWritten, done, unwritten, writable, unless_here, card_verdict, write_from, write_cards}
use Rattle.card_laws.specs.Refusals.{Refused, out_of_form, wrong_check, FirstRefused, Unfit, no_lines, FirstUnfit, NotWritten, no_room, card_refused}
use Rattle.card_laws.specs.Refusals as Why
use Rattle.card_laws.specs.Theorems.{JudgeLaws}
use Rattle.card_laws.proofs.Lines.{same-itself}
use Rattle.card_laws.proofs.Cards.{Stands, card-is}
use Rattle.card_laws.proofs.Reading.{card-some, refused-behind}
use Rattle.card_laws.proofs.Writing.{verdict-good, good-verdict}

-- ---- a check that differs
differs : (k c : List ℕ) → equal_bytes k c ≡ false → k ≡ c → ⊥
differs k c h e = let t : equal_bytes k c ≡ true = ap (equal_bytes k) (sym e) ∙ same-itself k in let z : ◌≡◌ {A = ℕ} 0 1 = cc in omega arith

unequal : (k c : List ℕ) → (k ≡ c → ⊥) → equal_bytes k c ≡ false
unequal k c d = by (equal_bytes k c) refl
  where
    by : (x : Bool) → equal_bytes k c ≡ x → x ≡ false
    by true q = absurd (d (same_bytes k c q))
    by false q = refl

equal : (k c : List ℕ) → k ≡ c → equal_bytes k c ≡ true
equal k c e = ap (equal_bytes k) (sym e) ∙ same-itself k

some_byte : (s : List ℕ) → is_empty s ≡ false → 0 < length s
some_byte [] e = let z : ◌≡◌ {A = ℕ} 0 1 = cc in absurd (omega arith)
some_byte (c ∷ s) e = omega arith

one-before : (k : Card) (ks : List Card) (rest : List ℕ) {s r : List ℕ} → s ≡ card_bytes k ++ r → r ≡ cards_bytes ks ++ rest → s ≡ cards_bytes (k ∷ ks) ++ rest
one-before k ks rest e f = e ∙ ap (λ (l : List ℕ). card_bytes k ++ l) f ∙ sym (append_assoc (card_bytes k) (cards_bytes ks) rest)

module _ (formula : List ℕ → List ℕ → Verdict) where
  -- ---- a card that is read
  why : (last a : ℕ) (f : Form) → judged formula last f ≡ refused a → Refused formula last f a
  unfolding judged
  why last a out h = let z : 16 ≡ a = cc in subst (Refused formula last out) z out_of_form
  why last a (formed n t e k r) h = by (equal_bytes k (check_text t e)) refl h
    where
      Goal : ℕ → Type 0
      Goal b = Refused formula last (formed n t e k r) b

      accepted : (v : Verdict) → formula t e ≡ v → k ≡ check_text t e → last < n → unless_refused (card n t e) r v ≡ refused a → Goal a
      accepted (Ok _) q c l w = let z : ◌≡◌ {A = ℕ} 0 1 = cc in absurd (omega arith)
      accepted (Err b) q c l w = let z : b ≡ a = cc in Why.own c l (q ∙ ap Err z)

      above : (x : Bool) → ltb last n ≡ x → k ≡ check_text t e → cond x (unless_refused (card n t e) r (formula t e)) (refused 18) ≡ refused a → Goal a
      above true q c w = accepted (formula t e) refl c (ltb-true last n q) w
      above false q c w = let z : 18 ≡ a = cc in subst Goal z (Why.not_above c (ltb-false last n q))

      by : (x : Bool) → equal_bytes k (check_text t e) ≡ x → cond x (cond (ltb last n) (unless_refused (card n t e) r (formula t e)) (refused 18)) (refused 17)
          ≡ refused a → Goal a
      by true q w = above (ltb last n) refl (same_bytes k (check_text t e) q) w
      by false q w = let z : 17 ≡ a = cc in subst Goal z (wrong_check (differs k (check_text t e) q))

  refuses : (last : ℕ) {a : ℕ} {f : Form} → Refused formula last f a → judged formula last f ≡ refused a
  unfolding judged
  refuses last out_of_form = refl
  refuses last (wrong_check {t = t} {e = e} {k = k} d) = rw (unequal k (check_text t e) d)
  refuses last (Why.not_above {n = n} {t = t} {e = e} {k = k} c h) = rw (equal k (check_text t e) c, le-ltb last n h)
  refuses last (Why.own {n = n} {t = t} {e = e} {k = k} c l q) = rw (equal k (check_text t e) c, lt-ltb last n l, q)

  pub check_first : (last : ℕ) (s : List ℕ) (a : ℕ) → read_card formula last s ≡ refused a ↔ Refused formula last (card_form s) a
  check_first last s a = (why last a (card_form s), λ w. refuses last w)

  -- ---- the first that is refused
  record Behind (last at : ℕ) (s : List ℕ) (a p : ℕ) : Type 0 where
    before : List Card
    rest : List ℕ
    bytes : s ≡ cards_bytes before ++ rest
    some : 0 < length rest
    valid : Valid formula last before
    refusal : read_card formula (last_of last before) rest ≡ refused a
    place : p ≡ at + length (cards_bytes before)

  behind : (f last at : ℕ) (s : List ℕ) (a p : ℕ) → length s ≤ f → read_from formula f last at s ≡ bad a p → Behind last at s a p
  unfolding read_from
  behind zero last at s a p h w = let z : ◌≡◌ {A = ℕ} 0 1 = cc in absurd (omega arith)
  behind (suc f) last at s a p h w = go (is_empty s) refl (read_card formula last s) refl w (λ l b r i u. behind f l b r a p i u)
    where
      Rest : Type 0
      Rest = (l b : ℕ) (r : List ℕ) → length r ≤ f → read_from formula f l b r ≡ bad a p → Behind l b r a p

      more : (k : Card) (r : List ℕ) → read_card formula last s ≡ taken k r → (b : CardsRead) → read_from formula f (number_of k) (at + length (card_bytes k)) r ≡ b
          → also_card k b ≡ bad a p → Rest → Behind last at s a p
      more k r q (good ks) u w ih = let z : ◌≡◌ {A = ℕ} 0 1 = cc in absurd (omega arith)
      more k r q (bad b o) u w ih =
          let c : Stands formula last s k r = card-is formula last s k r q in
          let short : length r ≤ f = omega (arith, ap length c.bytes, length-append (card_bytes k) r, card-some k) in
          let i : Behind (number_of k) (at + length (card_bytes k)) r a p = ih (number_of k) (at + length (card_bytes k)) r short (u ∙ w) in
          record {
            before = k ∷ i.before;
            rest = i.rest;
            bytes = one-before k i.before i.rest c.bytes i.bytes;
            some = i.some;
            valid = next c.good i.valid;
            refusal = i.refusal;
            place = omega (arith, i.place, length-append (card_bytes k) (cards_bytes i.before));
          }

      go : (x : Bool) → is_empty s ≡ x → (y : CardRead) → read_card formula last s ≡ y
          → cond x (good []) (then_cards at y (λ c r. read_from formula f (number_of c) (at + length (card_bytes c)) r)) ≡ bad a p → Rest → Behind last at s a p
      go true q y r w ih = let z : ◌≡◌ {A = ℕ} 0 1 = cc in absurd (omega arith)
      go false q (refused b) r w ih =
          let x : b ≡ a = cc in
          let y : at ≡ p = cc in
          record { before = []; rest = s; bytes = refl; some = some_byte s q; valid = none; refusal = r ∙ ap refused x; place = omega arith }
      go false q (taken k r) u w ih = more k r u (read_from formula f (number_of k) (at + length (card_bytes k)) r) refl w ih

  first_of : (s : List ℕ) (a p : ℕ) → read_cards formula s ≡ bad a p → FirstRefused formula s a p
  first_of s a p h =
      let i : Behind 0 0 s a p = behind (length s) 0 0 s a p (omega arith) h in
      record {
        before = i.before;
        rest = i.rest;
        bytes = i.bytes;
        some = i.some;
        good = i.valid;
        why = (check_first (last_of 0 i.before) i.rest a).0 i.refusal;
        place = omega (arith, i.place);
      }

  -- ---- a card that is to be written
  unfit : (last a : ℕ) (c : Card) → card_verdict formula last c ≡ Err a → Unfit formula last c a
  unfit last a (card n t e) h = by (writable (card n t e)) refl h
    where
      Goal : ℕ → Type 0
      Goal b = Unfit formula last (card n t e) b

      above : (y : Bool) → ltb last n ≡ y → writable (card n t e) ≡ true → cond y (formula t e) (Err 18) ≡ Err a → Goal a
      above true q l w = Why.own l (ltb-true last n q) w
      above false q l w = let z : 18 ≡ a = cc in subst Goal z (Why.not_above l (ltb-false last n q))

      by : (x : Bool) → writable (card n t e) ≡ x → cond x (cond (ltb last n) (formula t e) (Err 18)) (Err 16) ≡ Err a → Goal a
      by true q w = above (ltb last n) refl q w
      by false q w = let z : 16 ≡ a = cc in subst Goal z (no_lines q)

  abbrev verdict : Bool → Bool → Verdict → Verdict
  verdict x y v = cond x (cond y v (Err 18)) (Err 16)

  unfit-is : (last : ℕ) {a : ℕ} {c : Card} → Unfit formula last c a → card_verdict formula last c ≡ Err a
  unfit-is last (no_lines {c = card n t e} h) = ap (λ (x : Bool). verdict x (ltb last n) (formula t e)) h
  unfit-is last (Why.not_above {n = n} {t = t} {e = e} h l) =
      ap (λ (x : Bool). verdict x (ltb last n) (formula t e)) h ∙ ap (λ (y : Bool). cond y (formula t e) (Err 18)) (le-ltb last n l)
  unfit-is last (Why.own {n = n} {t = t} {e = e} h l q) =
      ap (λ (x : Bool). verdict x (ltb last n) (formula t e)) h ∙ ap (λ (y : Bool). cond y (formula t e) (Err 18)) (lt-ltb last n l) ∙ q

  record Up (last at : ℕ) (cs : List Card) (a p : ℕ) : Type 0 where
    before : List Card
    this : Card
    after : List Card
    cards : cs ≡ before ++ this ∷ after
    valid : Valid formula last before
    refusal : card_verdict formula (last_of last before) this ≡ Err a
    place : p ≡ at + length (cards_bytes before)

  up_to : (last at : ℕ) (cs : List Card) (s : List ℕ) (a p : ℕ) → write_from formula last at cs s ≡ unwritten a p → Up last at cs a p
  up_to last at [] s a p h = let z : ◌≡◌ {A = ℕ} 0 1 = cc in absurd (omega arith)
  up_to last at (c ∷ cs) s a p h = go (card_verdict formula last c) refl h (λ w. up_to (number_of c) (at + length (card_bytes c)) cs s a p w)
    where
      go : (v : Verdict) → card_verdict formula last c ≡ v → unless_here v at (write_from formula (number_of c) (at + length (card_bytes c)) cs s) ≡ unwritten a p
          → (write_from formula (number_of c) (at + length (card_bytes c)) cs s ≡ unwritten a p → Up (number_of c) (at + length (card_bytes c)) cs a p)
          → Up last at (c ∷ cs) a p
      go (Ok _) q w ih =
          let i : Up (number_of c) (at + length (card_bytes c)) cs a p = ih w in
          record {
            before = c ∷ i.before;
            this = i.this;
            after = i.after;
            cards = ap (λ (l : List Card). c ∷ l) i.cards;
            valid = next (verdict-good formula last c q) i.valid;
            refusal = i.refusal;
            place = omega (arith, i.place, length-append (card_bytes c) (cards_bytes i.before));
          }
      go (Err b) q w ih =
          let x : b ≡ a = cc in
          let y : at ≡ p = cc in
          record { before = []; this = c; after = cs; cards = refl; valid = none; refusal = q ∙ ap Err x; place = omega arith }

  not_written : (room : ℕ) (cs : List Card) (a p : ℕ) → write_cards formula room cs ≡ unwritten a p → NotWritten formula room cs a p
  not_written room cs a p h = by (ltb room (length (cards_bytes cs))) refl h
    where
      by : (x : Bool) → ltb room (length (cards_bytes cs)) ≡ x → cond x (unwritten 10 0) (write_from formula 0 0 cs (cards_bytes cs)) ≡ unwritten a p
          → NotWritten formula room cs a p
      by true q w =
          let x : 10 ≡ a = cc in
          let y : 0 ≡ p = cc in
          subst (λ (b : ℕ). NotWritten formula room cs b p) x (subst (NotWritten formula room cs 10) y (no_room (ltb-true room (length (cards_bytes cs)) q)))
      by false q w =
          let i : Up 0 0 cs a p = up_to 0 0 cs (cards_bytes cs) a p w in
          card_refused {a = a} {p = p} (ltb-false room (length (cards_bytes cs)) q)
          (record {
            before = i.before;
            this = i.this;
            after = i.after;
            cards = i.cards;
            good = i.valid;
            why = unfit (last_of 0 i.before) a i.this i.refusal;
            place = omega (arith, i.place);
          })

  module _ (laws : JudgeLaws formula) where
    refused-there : {s : List ℕ} {a p : ℕ} → FirstRefused formula s a p → read_cards formula s ≡ bad a p
    refused-there {s} {a} {p} i =
        ap (read_cards formula) i.bytes ∙ refused-behind formula laws i.before i.rest a i.good i.some
        (refuses (last_of 0 i.before) i.why) ∙ ap (bad a) (sym i.place)

    pub first_refused : (s : List ℕ) (a p : ℕ) → read_cards formula s ≡ bad a p ↔ FirstRefused formula s a p
    first_refused s a p = (first_of s a p, refused-there)

    answer-of : (last : ℕ) {a : ℕ} {f : Form} → Refused formula last f a → ((2 ≤ a) × (a ≤ 9)) ⊎ ((16 ≤ a) × (a ≤ 18))
    answer-of last out_of_form = inr (omega arith, omega arith)
    answer-of last (wrong_check d) = inr (omega arith, omega arith)
    answer-of last (Why.not_above c h) = inr (omega arith, omega arith)
    answer-of last (Why.own {a = a} {t = t} {e = e} c l q) = inl (laws.own_answer t e a q)

    pub answers : (s : List ℕ) (a p : ℕ) → read_cards formula s ≡ bad a p → ((2 ≤ a) × (a ≤ 9)) ⊎ ((16 ≤ a) × (a ≤ 18))
    answers s a p h = let i : FirstRefused formula s a p = first_of s a p h in answer-of (last_of 0 i.before) i.why

    stops_at : {last : ℕ} {ks : List Card} (at : ℕ) → Valid formula last ks → (c : Card) (cs : List Card) (s : List ℕ) (a : ℕ)
        → card_verdict formula (last_of last ks) c ≡ Err a
        → write_from formula last at (ks ++ c ∷ cs) s ≡ unwritten a (at + length (cards_bytes ks))
    stops_at at none c cs s a h =
        ap (λ (x : Verdict). unless_here x at (write_from formula (number_of c) (at + length (card_bytes c)) cs s)) h ∙ ap (unwritten a) (sym (add-zero at))
    stops_at at (next {c = k} {cs = ks} g v) c cs s a h =
        let p : at + length (card_bytes k) + length (cards_bytes ks) ≡ at + length (card_bytes k ++ cards_bytes ks) =
        omega (arith, length-append (card_bytes k) (cards_bytes ks)) in
        ap (λ (x : Verdict). unless_here x at (write_from formula (number_of k) (at + length (card_bytes k)) (ks ++ c ∷ cs) s)) (good-verdict formula laws g)
        ∙ stops_at (at + length (card_bytes k)) v c cs s a h
        ∙ ap (unwritten a) p

    unwritten-there : {room : ℕ} {cs : List Card} {a p : ℕ} → NotWritten formula room cs a p → write_cards formula room cs ≡ unwritten a p
    unwritten-there {room} {cs} (no_room h) =
        ap (λ (x : Bool). cond x (unwritten 10 0) (write_from formula 0 0 cs (cards_bytes cs))) (lt-ltb room (length (cards_bytes cs)) h)
    unwritten-there {room} {cs} {a} {p} (card_refused h i) =
        let z : 0 + length (cards_bytes i.before) ≡ p = omega (arith, i.place) in
        ap (λ (x : Bool). cond x (unwritten 10 0) (write_from formula 0 0 cs (cards_bytes cs))) (le-ltb room (length (cards_bytes cs)) h)
        ∙ ap (λ (l : List Card). write_from formula 0 0 l (cards_bytes cs)) i.cards
        ∙ stops_at 0 i.good i.this i.after (cards_bytes cs) a (unfit-is (last_of 0 i.before) i.why)
        ∙ ap (unwritten a) z

    pub first_unwritten : (room : ℕ) (cs : List Card) (a p : ℕ) → write_cards formula room cs ≡ unwritten a p ↔ NotWritten formula room cs a p
    first_unwritten room cs a p = (not_written room cs a p, unwritten-there)
