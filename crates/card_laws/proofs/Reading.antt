-- A file is good exactly if it is the bytes of good cards; good cards at the front are read through. Assumes nothing.
use mathlib.Core.Path.{◌≡◌, refl, sym, ap, subst, ◌∙◌}
use mathlib.Core.Bool.{Bool, true, false, cond}
use mathlib.Core.List.{List, [], ◌∷◌, ◌++◌, append_assoc, append-nil}
use Prim.Native.Nat.{ℕ, zero, suc, ◌+◌, ◌-◌, ◌*◌, ◌≤◌, ◌<◌}
use native.Mathlib.Nat.{add-zero}
use native.Mathlib.Omega.{arith}
use lib.ListN.{length, length-append}
use Rattle.lines.specs.Printing.{decimal_text, width_of}
use Rattle.lines.proofs.printing.Digits.{length_digits}
use Rattle.lines.proofs.printing.Widths.{at_most}
use Rattle.card_laws.specs.Lines.{ended}
use Rattle.card_laws.specs.Cards.{Card, card, number_of, target_key, expr_key, check_key, checked_lines, check_text, card_line, card_bytes, cards_bytes}
use Rattle.card_laws.specs.Verdicts.{Verdict}
use Rattle.card_laws.specs.Reading.{CardRead, taken, refused, read_card, CardsRead, good, bad, also_card, then_cards, last_of, is_empty, read_from}
use Rattle.card_laws.specs.Reading.{read_cards, GoodCard, good_card, Valid, none, next}
use Rattle.card_laws.specs.Theorems.{JudgeLaws}
use Rattle.card_laws.proofs.Cards.{Stands, card-is, card-there, check-length, bytes-before}

-- ---- a card's size
-- the lines' ends and keys
pub card-size : (n : ℕ) (t e : List ℕ) → length (card_bytes (card n t e)) ≡ 32 + width_of n + length t + length e
card-size n t e =
    omega (
      arith,
      length-append (decimal_text n) (10 ∷ ended (target_key ++ t) (ended (expr_key ++ e) (ended (check_key ++ check_text t e) []))),
      length_digits 10 (width_of n) n,
      length-append t (10 ∷ ended (expr_key ++ e) (ended (check_key ++ check_text t e) [])),
      length-append e (10 ∷ ended (check_key ++ check_text t e) []),
      length-append (check_text t e) (10 ∷ []),
      check-length t e,
    )

pub card-some : (c : Card) → 0 < length (card_bytes c)
card-some (card n t e) = omega (arith, card-size n t e)

pub not-empty : (c : Card) (r : List ℕ) → is_empty (card_bytes c ++ r) ≡ false
not-empty (card n t e) r = refl

empty-is : (s : List ℕ) → is_empty s ≡ true → s ≡ []
empty-is [] e = refl
empty-is (c ∷ s) e = let z : ◌≡◌ {A = ℕ} 0 1 = cc in absurd (omega arith)

pub not-nothing : (s : List ℕ) → 0 < length s → is_empty s ≡ false
not-nothing [] h = absurd (omega arith)
not-nothing (c ∷ s) h = refl

-- ---- cards before others
abbrev pub also_cards : List Card → CardsRead → CardsRead
also_cards [] r = r
also_cards (c ∷ cs) r = also_card c (also_cards cs r)

pub also-good : (ks bs : List Card) → also_cards ks (good bs) ≡ good (ks ++ bs)
also-good [] bs = refl
also-good (k ∷ ks) bs = ap (also_card k) (also-good ks bs)

pub also-bad : (ks : List Card) (a p : ℕ) → also_cards ks (bad a p) ≡ bad a p
also-bad [] a p = refl
also-bad (k ∷ ks) a p = ap (also_card k) (also-bad ks a p)

pub also-append : (ks bs : List Card) (r : CardsRead) → also_cards (ks ++ bs) r ≡ also_cards ks (also_cards bs r)
also-append [] bs r = refl
also-append (k ∷ ks) bs r = ap (also_card k) (also-append ks bs r)

pub last-append : (last : ℕ) (ks bs : List Card) → last_of last (ks ++ bs) ≡ last_of (last_of last ks) bs
last-append last [] bs = refl
last-append last (k ∷ ks) bs = last-append (number_of k) ks bs

pub cards-append : (ks bs : List Card) → cards_bytes (ks ++ bs) ≡ cards_bytes ks ++ cards_bytes bs
cards-append [] bs = refl
cards-append (k ∷ ks) bs = ap (λ (l : List ℕ). card_bytes k ++ l) (cards-append ks bs) ∙ sym (append_assoc (card_bytes k) (cards_bytes ks) (cards_bytes bs))

pub cards-some : (cs : List Card) → length cs ≤ length (cards_bytes cs)
cards-some [] = omega arith
cards-some (c ∷ cs) = omega (arith, cards-some cs, card-some c, length-append (card_bytes c) (cards_bytes cs))

module _ (formula : List ℕ → List ℕ → Verdict) where
  pub valid-append : {last : ℕ} {ks bs : List Card} → Valid formula last ks → Valid formula (last_of last ks) bs → Valid formula last (ks ++ bs)
  valid-append none w = w
  valid-append (next c v) w = next c (valid-append v w)

  -- ---- one card more
  pub step : (f last at : ℕ) (s : List ℕ) → is_empty s ≡ false
      → read_from formula (suc f) last at s ≡ then_cards at (read_card formula last s) (λ c r. read_from formula f (number_of c) (at + length (card_bytes c)) r)
  unfolding read_from
  step f last at s e = rw e refl

  pub end : (f last at : ℕ) → read_from formula f last at [] ≡ good []
  unfolding read_from
  end zero last at = refl
  end (suc f) last at = refl

  record Whole (last : ℕ) (s : List ℕ) (cs : List Card) : Type 0 where
    bytes : s ≡ cards_bytes cs
    valid : Valid formula last cs

  nothing : (last : ℕ) (s : List ℕ) (cs : List Card) → s ≡ [] → good [] ≡ good cs → Whole last s cs
  nothing last s cs e w = let n : [] ≡ cs = cc in subst (Whole last s) n (record { bytes = e; valid = none })

  from_is : (f last at : ℕ) (s : List ℕ) (cs : List Card) → length s ≤ f → read_from formula f last at s ≡ good cs → Whole last s cs
  unfolding read_from
  from_is zero last at [] cs h w = nothing last [] cs refl w
  from_is zero last at (c ∷ s) cs h w = absurd (omega arith)
  from_is (suc f) last at s cs h w = go (is_empty s) refl (read_card formula last s) refl w (λ l a r ks i u. from_is f l a r ks i u)
    where
      Rest : Type 0
      Rest = (l a : ℕ) (r : List ℕ) (ks : List Card) → length r ≤ f → read_from formula f l a r ≡ good ks → Whole l r ks

      more : (k : Card) (r : List ℕ) → read_card formula last s ≡ taken k r → (b : CardsRead) → read_from formula f (number_of k) (at + length (card_bytes k)) r ≡ b
          → also_card k b ≡ good cs → Rest → Whole last s cs
      more k r q (bad a p) u w ih = let z : ◌≡◌ {A = ℕ} 0 1 = cc in absurd (omega arith)
      more k r q (good ks) u w ih =
          let n : k ∷ ks ≡ cs = cc in
          let c : Stands formula last s k r = card-is formula last s k r q in
          let short : length r ≤ f = omega (arith, ap length c.bytes, length-append (card_bytes k) r, card-some k) in
          let i : Whole (number_of k) r ks = ih (number_of k) (at + length (card_bytes k)) r ks short u in
          subst (Whole last s) n (record { bytes = c.bytes ∙ ap (λ (l : List ℕ). card_bytes k ++ l) i.bytes; valid = next c.good i.valid })

      go : (x : Bool) → is_empty s ≡ x → (y : CardRead) → read_card formula last s ≡ y
          → cond x (good []) (then_cards at y (λ c r. read_from formula f (number_of c) (at + length (card_bytes c)) r)) ≡ good cs → Rest → Whole last s cs
      go true q y p w ih = nothing last s cs (empty-is s q) w
      go false q (refused a) p w ih = let z : ◌≡◌ {A = ℕ} 0 1 = cc in absurd (omega arith)
      go false q (taken k r) p w ih = more k r p (read_from formula f (number_of k) (at + length (card_bytes k)) r) refl w ih

  pub sound : (s : List ℕ) (cs : List Card) → read_cards formula s ≡ good cs → (s ≡ cards_bytes cs) × Valid formula 0 cs
  sound s cs h = let i : Whole 0 s cs = from_is (length s) 0 0 s cs (omega arith) h in (i.bytes, i.valid)

  module _ (laws : JudgeLaws formula) where
    -- good cards at the front are read through
    pub through : {last : ℕ} {ks : List Card} (f at : ℕ) (s : List ℕ) → Valid formula last ks
        → read_from formula (length ks + f) last at (cards_bytes ks ++ s) ≡ also_cards ks (read_from formula f (last_of last ks) (at + length (cards_bytes ks)) s)
    through {last} f at s none =
        let z : 0 + f ≡ f = omega arith in
        ap (λ (m : ℕ). read_from formula m last at s) z ∙ ap (λ (n : ℕ). read_from formula f last n s) (sym (add-zero at))
    through {last} f at s (next {c = k} {cs = ks} c v) =
        let g : ℕ = length ks + f in
        let p : at + length (card_bytes k) + length (cards_bytes ks) ≡ at + length (card_bytes k ++ cards_bytes ks) =
        omega (arith, length-append (card_bytes k) (cards_bytes ks)) in
        let m : suc (length ks) + f ≡ suc g = omega arith in
        ap (λ (m : ℕ). read_from formula m last at ((card_bytes k ++ cards_bytes ks) ++ s)) m
        ∙ ap (read_from formula (suc g) last at) (append_assoc (card_bytes k) (cards_bytes ks) s)
        ∙ step g last at (card_bytes k ++ (cards_bytes ks ++ s)) (not-empty k (cards_bytes ks ++ s))
        ∙ ap (λ (x : CardRead). then_cards at x (λ k r. read_from formula g (number_of k) (at + length (card_bytes k)) r))
        (card-there formula laws (cards_bytes ks ++ s) c)
        ∙ ap (also_card k) (through f (at + length (card_bytes k)) s v ∙ ap (λ (n : ℕ). also_cards ks (read_from formula f (last_of (number_of k) ks) n s)) p)

    pub back : (cs : List Card) → Valid formula 0 cs → read_cards formula (cards_bytes cs) ≡ good cs
    back cs v =
        let f : ℕ = length (cards_bytes cs) - length cs in
        let n : length (cards_bytes cs) ≡ length cs + f = omega (arith, cards-some cs) in
        ap (λ (m : ℕ). read_from formula m 0 0 (cards_bytes cs)) n
        ∙ ap (read_from formula (length cs + f) 0 0) (sym (append-nil (cards_bytes cs)))
        ∙ through f 0 [] v
        ∙ ap (also_cards cs) (end f (last_of 0 cs) (0 + length (cards_bytes cs)))
        ∙ also-good cs []
        ∙ ap good (append-nil cs)

    -- a refused card behind good ones decides
    pub refused-behind : (ks : List Card) (s : List ℕ) (a : ℕ) → Valid formula 0 ks → 0 < length s → read_card formula (last_of 0 ks) s ≡ refused a
        → read_cards formula (cards_bytes ks ++ s) ≡ bad a (length (cards_bytes ks))
    refused-behind ks s a v long r =
        let f : ℕ = length (cards_bytes ks ++ s) - length ks - 1 in
        let g : ℕ = 0 + length (cards_bytes ks) in
        let m : length (cards_bytes ks ++ s) ≡ length ks + suc f = omega (arith, cards-some ks, length-append (cards_bytes ks) s) in
        let z : g ≡ length (cards_bytes ks) = omega arith in
        ap (λ (k : ℕ). read_from formula k 0 0 (cards_bytes ks ++ s)) m
        ∙ through (suc f) 0 s v
        ∙ ap (also_cards ks) (step f (last_of 0 ks) g s (not-nothing s long)
        ∙ ap (λ (w : CardRead). then_cards g w (λ k r. read_from formula f (number_of k) (g + length (card_bytes k)) r)) r)
        ∙ also-bad ks a g
        ∙ ap (bad a) z

    -- ---- how long good cards are: a card of two digits has at most 2,082 bytes
    pub record Sizes (last : ℕ) (cs : List Card) : Type 0 where
      pub rises : last + length cs ≤ last_of last cs
      pub most : last ≤ 64 → last_of last cs ≤ 64
      pub bytes : length (cards_bytes cs) + 2082 * last ≤ 2082 * last_of last cs

    pub good-size : {last : ℕ} {c : Card} → GoodCard formula last c → (last < number_of c) × (number_of c ≤ 64) × (length (card_bytes c) ≤ 2082)
    good-size (good_card {n} {t} {e} h b a) =
        (h, b, omega (arith, card-size n t e, laws.target_short t e a, laws.expr_short t e a, at_most 1 n (omega arith)))

    pub sizes : {last : ℕ} {cs : List Card} → Valid formula last cs → Sizes last cs
    sizes none = record { rises = omega arith; most = λ h. h; bytes = omega arith }
    sizes {last} (next {c = c} {cs = cs} g v) =
        let i = sizes v in
        let z = good-size g in
        record {
          rises = omega (arith, i.rises, z.0);
          most = λ h. i.most z.1;
          bytes = omega (arith, i.bytes, z.0, z.2, length-append (card_bytes c) (cards_bytes cs));
        }
