-- The theorems on files of cards, for every judge that keeps the laws.
use mathlib.Core.Path.{◌≡◌, refl, sym, ap, subst, ◌∙◌}
use mathlib.Core.Bool.{Bool, true, false, cond}
use mathlib.Core.Logic.{◌⊎◌, inl, inr}
use mathlib.Core.List.{List, [], ◌∷◌, ◌++◌, append_assoc}
use Prim.Native.Nat.{ℕ, zero, suc, ◌+◌, ◌-◌, ◌/◌, ◌%◌, ◌≤◌, ◌<◌}
use native.Mathlib.Nat.{suc-add}
use native.Mathlib.Omega.{arith}
use lib.Dec.{ltb}
use lib.ListN.{length, take, drop, set, get_or, length-append}
use borrow.Author.Tests.{lt-ltb}
use Rattle.std.specs.Prelude.{Ok}
use Rattle.memory.specs.Names.{decimal_value}
use Rattle.tokens.specs.Symbols.{equal_bytes}
use Rattle.tokens.proofs.Same.{equal as same_bytes}
use Rattle.lines.specs.Printing.{low_digits}
use Rattle.card_laws.specs.Lines.{ended, Lacks}
use Rattle.card_laws.specs.Cards.{Card, card, number_of, target_key, expr_key, check_key, check_of, checked_lines, check_text, card_line, card_bytes}
use Rattle.card_laws.specs.Cards.{cards_bytes, Form, formed, out, card_form}
use Rattle.card_laws.specs.Verdicts.{Verdict}
use Rattle.card_laws.specs.Reading.{CardRead, taken, refused, unless_refused, judged, read_card, CardsRead, good, bad, then_cards, last_of, is_empty}
use Rattle.card_laws.specs.Reading.{read_from, read_cards, GoodCard, good_card, Valid, none, next}
use Rattle.card_laws.specs.Writing.{written_bytes}
use Rattle.card_laws.specs.Theorems.{JudgeLaws, Spoilt, lines_at, CardTheorems}
use Rattle.card_laws.proofs.Lines.{lacks-append, same_line}
use Rattle.card_laws.proofs.Cards.{Formed, form-is, five, check-lacks, check-is, number-there, bytes-before, ended-append}
use Rattle.card_laws.proofs.Reading.{sound, back, refused-behind, cards-append}
use Rattle.card_laws.proofs.Writing.{written, writes}
use Rattle.card_laws.proofs.Refusals.{check_first, first_refused, answers, first_unwritten}
use Rattle.card_laws.proofs.Damage.{Follows, nothing, another, refuted}

-- ---- five digits are those of one number
pub digit-bytes : (n : ℕ) → low_digits 10 5 n ≡ (48 + n / 10 / 10 / 10 / 10 % 10) ∷ (48 + n / 10 / 10 / 10 % 10) ∷ (48 + n / 10 / 10 % 10)
    ∷ (48 + n / 10 % 10) ∷ (48 + n % 10) ∷ []
digit-bytes n =
    rw (
      lt-ltb (n / 10 / 10 / 10 / 10 % 10) 10 (omega arith),
      lt-ltb (n / 10 / 10 / 10 % 10) 10 (omega arith),
      lt-ltb (n / 10 / 10 % 10) 10 (omega arith),
      lt-ltb (n / 10 % 10) 10 (omega arith),
      lt-ltb (n % 10) 10 (omega arith),
    )

number-of : (n : ℕ) → n < 65521 → decimal_value (low_digits 10 5 n) ≡ n
number-of n h =
    let top : n / 10 / 10 / 10 / 10 % 10 ≡ n / 10 / 10 / 10 / 10 = omega arith in
    ap decimal_value (digit-bytes n) ∙ omega arith

one_number : (m n : ℕ) → m < 65521 → n < 65521 → low_digits 10 5 m ≡ low_digits 10 5 n → m ≡ n
one_number m n h k e = sym (number-of m h) ∙ ap decimal_value e ∙ number-of n k

-- ---- one byte in the middle of a list
set-middle : (a l b : List ℕ) (i x : ℕ) → i < length l → set (a ++ (l ++ b)) (length a + i) x ≡ a ++ ((take i l ++ x ∷ drop (suc i) l) ++ b)
set-middle [] [] b i x h = absurd (omega arith)
set-middle [] (c ∷ l) b zero x h = refl
set-middle [] (c ∷ l) b (suc i) x h =
    let z : 0 + suc i ≡ suc (0 + i) = omega arith in
    ap (λ (m : ℕ). set (c ∷ (l ++ b)) m x) z ∙ ap (λ (m : List ℕ). c ∷ m) (set-middle [] l b i x (omega arith))
set-middle (c ∷ a) l b i x h = ap (λ (m : ℕ). set (c ∷ (a ++ (l ++ b))) m x) (suc-add (length a) i) ∙ ap (λ (m : List ℕ). c ∷ m) (set-middle a l b i x h)

get-middle : (a l b : List ℕ) (i : ℕ) → i < length l → l ≡ take i l ++ get_or (a ++ (l ++ b)) (length a + i) 0 ∷ drop (suc i) l
get-middle [] [] b i h = absurd (omega arith)
get-middle [] (c ∷ l) b zero h = refl
get-middle [] (c ∷ l) b (suc i) h =
    let z : 0 + suc i ≡ suc (0 + i) = omega arith in
    ap (λ (m : List ℕ). c ∷ m) (get-middle [] l b i (omega arith)) ∙ ap (λ (m : ℕ). c ∷ (take i l ++ get_or (c ∷ (l ++ b)) m 0 ∷ drop (suc i) l)) (sym z)
get-middle (c ∷ a) l b i h = get-middle a l b i h ∙ ap (λ (m : ℕ). take i l ++ get_or (c ∷ (a ++ (l ++ b))) m 0 ∷ drop (suc i) l) (sym (suc-add (length a) i))

-- the card line, two lines with the byte x between p and q, the check of t and e, and what follows
abbrev replaced : ℕ → List ℕ → List ℕ → List ℕ → List ℕ → ℕ → List ℕ → List ℕ
replaced n t e p q x r = ended (card_line n) ((p ++ x ∷ q) ++ ended (check_key ++ check_text t e) r)

module _ (formula : List ℕ → List ℕ → Verdict) (laws : JudgeLaws formula) where
  follows : {last : ℕ} {bs : List Card} → Valid formula last bs → Follows (cards_bytes bs)
  follows none = nothing
  follows (next {c = card n t e} {cs = bs} g v) = another _

  record Parted (last : ℕ) (ks : List Card) (c : Card) (bs : List Card) : Type 0 where
    before : Valid formula last ks
    this : GoodCard formula (last_of last ks) c
    after : Valid formula (number_of c) bs

  parted : {last : ℕ} (ks : List Card) (c : Card) (bs : List Card) → Valid formula last (ks ++ c ∷ bs) → Parted last ks c bs
  parted [] c bs (next g v) = record { before = none; this = g; after = v }
  parted (k ∷ ks) c bs (next g v) = let i : Parted (number_of k) ks c bs = parted ks c bs v in
      record { before = next g i.before; this = i.this; after = i.after }

  record Refusal (r : CardRead) : Type 0 where
    answer : ℕ
    is : r ≡ refused answer
    which : (answer ≡ 16) ⊎ (answer ≡ 17)

  -- ---- the card itself
  module _ (last n : ℕ) (t e bs p q : List ℕ) (x y : ℕ) (pn : 0 < n) (sn : n ≤ 64) (accepted : formula t e ≡ Ok tt) (fs : Follows bs)
      (at : checked_lines t e ≡ p ++ y ∷ q) (differs : x ≡ y → ⊥) (bx : x < 256) (by : y < 256) where
    short : length (checked_lines t e) ≤ 2062
    short = omega (
      arith,
      laws.target_short t e accepted,
      laws.expr_short t e accepted,
      length-append t (10 ∷ ended (expr_key ++ e) []),
      length-append e (10 ∷ []),
    )

    wrong_check : (m : ℕ) (t' e' k' r' : List ℕ) → Formed (replaced n t e p q x bs) m t' e' k' r' → k' ≡ check_text t' e' → ⊥
    unfolding check_text
    wrong_check m t' e' k' r' i c =
        refuted t e (check_text t e) bs t' e' k' r' (laws.target_line t e accepted) (laws.expr_line t e accepted) (check-lacks t e) i.target_lacks
        i.expr-lacks (five k' i.digits).1
        (laws.no_k t e accepted) fs short (low_digits 10 5) one_number refl c p q x y differs bx by at
        (same_line (card_line n) (card_line m) ((p ++ x ∷ q) ++ ended (check_key ++ check_text t e) bs)
        (ended (target_key ++ t') (ended (expr_key ++ e') (ended (check_key ++ k') r')))
        (number-there n pn sn).1 i.number-lacks i.bytes).rest

    card_refused : Refusal (read_card formula last (replaced n t e p q x bs))
    unfolding judged
    card_refused = go (card_form (replaced n t e p q x bs)) refl
      where
        go : (f : Form) → card_form (replaced n t e p q x bs) ≡ f → Refusal (judged formula last f)
        go out h = record { answer = 16; is = refl; which = inl refl }
        go (formed m t' e' k' r') h = check (equal_bytes k' (check_text t' e')) refl
          where
            check : (c : Bool) → equal_bytes k' (check_text t' e') ≡ c → Refusal
                (cond c (cond (ltb last m) (unless_refused (card m t' e') r' (formula t' e')) (refused 18)) (refused 17))
            check false c = record { answer = 17; is = refl; which = inr refl }
            check true c = absurd (wrong_check m t' e' k' r' (form-is (replaced n t e p q x bs) m t' e' k' r' h) (same_bytes k' (check_text t' e') c))

  -- ---- in its file
  in-file : (ks : List Card) (n : ℕ) (t e : List ℕ) (bs : List Card) (p q : List ℕ) (x y : ℕ) → Parted 0 ks (card n t e) bs
      → checked_lines t e ≡ p ++ y ∷ q → (x ≡ y → ⊥) → x < 256 → y < 256
      → Spoilt (read_cards formula (cards_bytes ks ++ replaced n t e p q x (cards_bytes bs))) (length (cards_bytes ks))
  in-file ks n t e bs p q x y c at d bx by = go c.this
    where
      s : List ℕ
      s = replaced n t e p q x (cards_bytes bs)

      l : ℕ
      l = last_of 0 ks

      go : GoodCard formula (last_of 0 ks) (card n t e) → Spoilt (read_cards formula (cards_bytes ks ++ replaced n t e p q x (cards_bytes bs)))
          (length (cards_bytes ks))
      go (good_card rises most a) =
          let r : Refusal (read_card formula l s) = card_refused l n t e (cards_bytes bs) p q x y (omega arith) most a (follows c.after) at d bx by in
          record { answer = r.answer; is = refused-behind formula laws ks s r.answer c.before (omega arith) r.is; which = r.which }

  whole : (n : ℕ) (t e r : List ℕ) → card_bytes (card n t e) ++ r ≡ ended (card_line n) [] ++ (checked_lines t e ++ ended (check_key ++ check_text t e) r)
  whole n t e r =
      let c : List ℕ = ended (check_key ++ check_text t e) r in
      bytes-before (card n t e) r
      ∙ ap (ended (card_line n)) (sym (ended-append (target_key ++ t) (ended (expr_key ++ e) []) c
      ∙ ap (ended (target_key ++ t)) (ended-append (expr_key ++ e) [] c)))
      ∙ sym (ended-append (card_line n) [] (checked_lines t e ++ c))

  damaged : (s : List ℕ) (ks : List Card) (n : ℕ) (t e : List ℕ) (bs : List Card) → read_cards formula s ≡ good (ks ++ card n t e ∷ bs)
      → (j : ℕ) → lines_at ks n ≤ j → j < lines_at ks n + length (checked_lines t e)
      → (x : ℕ) → x < 256 → get_or s j 0 < 256 → (x ≡ get_or s j 0 → ⊥) → Spoilt (read_cards formula (set s j x)) (length (cards_bytes ks))
  damaged s ks n t e bs h j low high x bx by d =
      let k : (s ≡ cards_bytes (ks ++ card n t e ∷ bs)) × Valid formula 0 (ks ++ card n t e ∷ bs) = sound formula s (ks ++ card n t e ∷ bs) h in
      let l : List ℕ = checked_lines t e in
      let line : List ℕ = ended (card_line n) [] in
      let front : List ℕ = cards_bytes ks ++ line in
      let tail : List ℕ = ended (check_key ++ check_text t e) (cards_bytes bs) in
      let is : s ≡ front ++ (l ++ tail) =
      k.0 ∙ cards-append ks (card n t e ∷ bs) ∙ ap (λ (m : List ℕ). cards_bytes ks ++ m) (whole n t e (cards_bytes bs))
      ∙ sym (append_assoc (cards_bytes ks) line (l ++ tail)) in
      let i : ℕ = j - length front in
      let size : length front ≡ lines_at ks n = length-append (cards_bytes ks) line in
      let at : j ≡ length front + i = omega arith in
      let y : ℕ = get_or (front ++ (l ++ tail)) (length front + i) 0 in
      let same : get_or s j 0 ≡ y = ap (λ (m : List ℕ). get_or m j 0) is ∙ ap (λ (m : ℕ). get_or (front ++ (l ++ tail)) m 0) at in
      let new : set s j x ≡ cards_bytes ks ++ replaced n t e (take i l) (drop (suc i) l) x (cards_bytes bs) =
      ap (λ (m : List ℕ). set m j x) is ∙ ap (λ (m : ℕ). set (front ++ (l ++ tail)) m x) at ∙ set-middle front l tail i x (omega arith)
      ∙ append_assoc (cards_bytes ks) line ((take i l ++ x ∷ drop (suc i) l) ++ tail)
      ∙ ap (λ (m : List ℕ). cards_bytes ks ++ m) (ended-append (card_line n) [] ((take i l ++ x ∷ drop (suc i) l) ++ tail)) in
      subst (λ (m : List ℕ). Spoilt (read_cards formula m) (length (cards_bytes ks))) (sym new)
      (in-file ks n t e bs (take i l) (drop (suc i) l) x y (parted ks (card n t e) bs k.1) (get-middle front l tail i (omega arith))
      (λ (q : x ≡ y). d (q ∙ sym same)) bx (omega arith))

  pub card-theorems : CardTheorems formula
  card-theorems =
      record {
        sound = sound formula;
        back = back formula laws;
        damaged = damaged;
        written = written formula laws;
        writes = writes formula laws;
        check_first = check_first formula;
        first_refused = first_refused formula laws;
        answers = answers formula laws;
        first_unwritten = first_unwritten formula laws;
        untouched = λ out cs a p h. ap (written_bytes out) h;
      }
