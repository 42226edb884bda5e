-- A card that is read is a good card's bytes, and a good card's bytes are read. Assumes nothing.
use mathlib.Core.Path.{◌≡◌, refl, sym, ap, subst, ◌∙◌}
use mathlib.Core.Bool.{Bool, true, false, ◌&&◌, cond}
use mathlib.Core.List.{List, [], ◌∷◌, ◌++◌, append_assoc, append-nil}
use Prim.Native.Nat.{ℕ, zero, suc, ◌+◌, ◌/◌, ◌%◌, ◌≤◌, ◌<◌}
use native.Mathlib.Nat.{mod-lt}
use native.Mathlib.Omega.{arith}
use lib.Dec.{eqb, ltb}
use lib.ListN.{length, length-append}
use borrow.Author.Tests.{eqb-true, lt-ltb, le-leb, ltb-true}
use Rattle.std.specs.Prelude.{Ok, Err, Some, None}
use Rattle.memory.specs.declared.Bank.TheVariants.{«V»}
use Rattle.memory.specs.declared.Bank.{Bank}
use Rattle.memory.specs.Names.{is_digit, all_digits, no_leading_zero, decimal_value, number_below}
use Rattle.memory.proofs.names.Decimals.{digit-range}
use Rattle.tokens.specs.Symbols.{equal_bytes}
use Rattle.tokens.proofs.Tests.{both, no}
use Rattle.tokens.proofs.Same.{equal as same_bytes}
use Rattle.lines.specs.Forms.{natural_form}
use Rattle.lines.specs.Printing.{numeral_byte, low_digits, decimal_text}
use Rattle.lines.proofs.Laws.{form-laws}
use Rattle.lines.proofs.printing.Digits.{length_digits}
use Rattle.card_laws.specs.Lines.{ended, Lacks, Field, field, wrong, field_of}
use Rattle.card_laws.specs.Cards.{Card, card, card_key, target_key, expr_key, check_key, modulus, check_of, checked_lines, check_text, card_line}
use Rattle.card_laws.specs.Cards.{card_before, card_bytes, Form, formed, out, most_cards, card_number, is_check, numbered, with_check, with_expr}
use Rattle.card_laws.specs.Cards.{with_target, with_number, card_form}
use Rattle.card_laws.specs.Verdicts.{Verdict}
use Rattle.card_laws.specs.Reading.{CardRead, taken, refused, unless_refused, judged, read_card, GoodCard, good_card}
use Rattle.card_laws.specs.Theorems.{JudgeLaws}
use Rattle.card_laws.proofs.Lines.{lacks-append, lacks-cons, same-itself, field_is, field-there}

-- ---- digits
pub digits-lack : (s : List ℕ) → all_digits s ≡ true → Lacks 10 s
digits-lack [] e = refl
digits-lack (c ∷ s) e =
    let h = both (is_digit c) (all_digits s) e in
    let r = digit-range c h.0 in
    lacks-cons 10 c s (λ z. omega (arith, r)) (digits-lack s h.1)

numeral-digit : (d : ℕ) → d < 10 → is_digit (numeral_byte d) ≡ true
numeral-digit d h = rw (lt-ltb d 10 h, le-leb 48 (48 + d) (omega arith), le-leb (48 + d) 57 (omega arith))

five-digits : (n : ℕ) → all_digits (low_digits 10 5 n) ≡ true
five-digits n =
    rw (
      numeral-digit (n / 10 / 10 / 10 / 10 % 10) (omega arith),
      numeral-digit (n / 10 / 10 / 10 % 10) (omega arith),
      numeral-digit (n / 10 / 10 % 10) (omega arith),
      numeral-digit (n / 10 % 10) (omega arith),
      numeral-digit (n % 10) (omega arith),
    )

pub check-is : (t e : List ℕ) → is_check (check_text t e) ≡ true
unfolding is_check check_text
check-is t e = five-digits (check_of (checked_lines t e))

pub check-length : (t e : List ℕ) → length (check_text t e) ≡ 5
unfolding check_text
check-length t e = refl

pub check-lacks : (t e : List ℕ) → Lacks 10 (check_text t e)
unfolding check_text
check-lacks t e = digits-lack (check_text t e) (five-digits (check_of (checked_lines t e)))

-- ---- the card's number
-- what the number below m says of a text: lines' law of V cells, whose texts are these
picked : (b : Bool) (m n : ℕ) → cond b (Some m) None ≡ Some n → (b ≡ true) × (m ≡ n)
picked true m n e = (refl, cc)
picked false m n e = let z : ◌≡◌ {A = ℕ} 0 1 = cc in absurd (omega arith)

pub number_is : (v : List ℕ) (n : ℕ) → card_number v ≡ n → 0 < n → (v ≡ decimal_text n) × (n ≤ 64)
unfolding card_number
number_is v n e h = go (number_below 65 v) refl e
  where
    go : (t : Bool) → number_below 65 v ≡ t → cond t (decimal_value v) 0 ≡ n → (v ≡ decimal_text n) × (n ≤ 64)
    go false q w = absurd (omega arith)
    go true q w =
        let b = both (no_leading_zero v && all_digits v) (ltb (decimal_value v) 65) q in
        let small = ltb-true (decimal_value v) 65 b.1 in
        let wide : ltb (decimal_value v) 65536 ≡ true = lt-ltb (decimal_value v) 65536 (omega arith) in
        let p : natural_form 65536 v ≡ Some n = rw (b.0, wide, w) in
        (form-laws.only «V» v n (λ z. let f : ◌≡◌ {A = ℕ} 0 1 = cc in omega arith) p, omega arith)

pub number-there : (n : ℕ) → 0 < n → n ≤ 64 → (card_number (decimal_text n) ≡ n) × Lacks 10 (decimal_text n)
unfolding card_number
number-there n h b =
    let p = picked (number_below 65536 (decimal_text n)) (decimal_value (decimal_text n)) n (form-laws.back «V» n (omega arith)) in
    let d = both (no_leading_zero (decimal_text n) && all_digits (decimal_text n)) (ltb (decimal_value (decimal_text n)) 65536) p.0 in
    let e = both (no_leading_zero (decimal_text n)) (all_digits (decimal_text n)) d.0 in
    let small : ltb n 65 ≡ true = lt-ltb n 65 (omega arith) in
    (rw (d.0, p.1, small), digits-lack (decimal_text n) e.1)

-- ---- four lines
pub record Formed (s : List ℕ) (n : ℕ) (t e k r : List ℕ) : Type 0 where
  pub bytes : s ≡ ended (card_line n) (ended (target_key ++ t) (ended (expr_key ++ e) (ended (check_key ++ k) r)))
  pub positive : 0 < n
  pub most : n ≤ 64
  pub number-lacks : Lacks 10 (decimal_text n)
  pub target_lacks : Lacks 10 t
  pub expr-lacks : Lacks 10 e
  pub digits : is_check k ≡ true

pub five : (k : List ℕ) → is_check k ≡ true → (length k ≡ 5) × Lacks 10 k
unfolding is_check
five k h = let b = both (eqb (length k) 5) (all_digits k) h in (eqb-true (length k) 5 b.0, digits-lack k b.1)

numbered_is : (m : ℕ) (t e k r : List ℕ) (n : ℕ) (t' e' k' r' : List ℕ) → numbered m t e k r ≡ formed n t' e' k' r'
    → (0 < m) × (is_check k ≡ true) × (formed m t e k r ≡ formed n t' e' k' r')
numbered_is m t e k r n t' e' k' r' h = go (ltb 0 m && is_check k) refl h
  where
    go : (x : Bool) → (ltb 0 m && is_check k) ≡ x → cond x (formed m t e k r) out ≡ formed n t' e' k' r'
        → (0 < m) × (is_check k ≡ true) × (formed m t e k r ≡ formed n t' e' k' r')
    go true q w = let b = both (ltb 0 m) (is_check k) q in (ltb-true 0 m b.0, b.1, w)
    go false q w = let z : ◌≡◌ {A = ℕ} 0 1 = cc in absurd (omega arith)

pub form-is : (s : List ℕ) (n : ℕ) (t e k r : List ℕ) → card_form s ≡ formed n t e k r → Formed s n t e k r
unfolding card_form
form-is s n t e k r h = first (field_of card_key s) refl h
  where
    fourth : (v t' e' r1 r2 r3 : List ℕ) → (s ≡ card_key ++ ended v r1) × Lacks 10 v → (r1 ≡ target_key ++ ended t' r2) × Lacks 10 t'
        → (r2 ≡ expr_key ++ ended e' r3) × Lacks 10 e'
        → (x : Field) → field_of check_key r3 ≡ x → with_check v t' e' x ≡ formed n t e k r → Formed s n t e k r
    fourth v t' e' r1 r2 r3 a b c wrong q w = let z : ◌≡◌ {A = ℕ} 0 1 = cc in absurd (omega arith)
    fourth v t' e' r1 r2 r3 a b c (field k' r4) q w =
        let m : (0 < card_number v) × (is_check k' ≡ true) × (formed (card_number v) t' e' k' r4 ≡ formed n t e k r) =
        numbered_is (card_number v) t' e' k' r4 n t e k r w in
        let d : (r3 ≡ check_key ++ ended k' r4) × Lacks 10 k' = field_is check_key r3 k' r4 q in
        let f : formed (card_number v) t' e' k' r4 ≡ formed n t e k r = m.2 in
        let en : card_number v ≡ n = cc in
        let et : t' ≡ t = cc in
        let ee : e' ≡ e = cc in
        let ek : k' ≡ k = cc in
        let er : r4 ≡ r = cc in
        let g : (v ≡ decimal_text n) × (n ≤ 64) = number_is v n en (omega (arith, m.0)) in
        let ev : v ≡ decimal_text n = g.0 in
        let a' : s ≡ card_key ++ ended v r1 = a.0 in
        let b' : r1 ≡ target_key ++ ended t' r2 = b.0 in
        let c' : r2 ≡ expr_key ++ ended e' r3 = c.0 in
        let d' : r3 ≡ check_key ++ ended k' r4 = d.0 in
        record {
          bytes = cc;
          positive = omega (arith, m.0);
          most = g.1;
          number-lacks = subst (Lacks 10) ev a.1;
          target_lacks = subst (Lacks 10) et b.1;
          expr-lacks = subst (Lacks 10) ee c.1;
          digits = subst (λ (l : List ℕ). is_check l ≡ true) ek m.1;
        }

    third : (v t' r1 r2 : List ℕ) → (s ≡ card_key ++ ended v r1) × Lacks 10 v → (r1 ≡ target_key ++ ended t' r2) × Lacks 10 t'
        → (x : Field) → field_of expr_key r2 ≡ x → with_expr v t' x ≡ formed n t e k r → Formed s n t e k r
    third v t' r1 r2 a b wrong q w = let z : ◌≡◌ {A = ℕ} 0 1 = cc in absurd (omega arith)
    third v t' r1 r2 a b (field e' r3) q w = fourth v t' e' r1 r2 r3 a b (field_is expr_key r2 e' r3 q) (field_of check_key r3) refl w

    second : (v r1 : List ℕ) → (s ≡ card_key ++ ended v r1) × Lacks 10 v → (x : Field) → field_of target_key r1 ≡ x → with_target v x ≡ formed n t e k r
        → Formed s n t e k r
    second v r1 a wrong q w = let z : ◌≡◌ {A = ℕ} 0 1 = cc in absurd (omega arith)
    second v r1 a (field t' r2) q w = third v t' r1 r2 a (field_is target_key r1 t' r2 q) (field_of expr_key r2) refl w

    first : (x : Field) → field_of card_key s ≡ x → with_number x ≡ formed n t e k r → Formed s n t e k r
    first wrong q w = let z : ◌≡◌ {A = ℕ} 0 1 = cc in absurd (omega arith)
    first (field v r1) q w = second v r1 (field_is card_key s v r1 q) (field_of target_key r1) refl w

pub form-there : (n : ℕ) (t e k r : List ℕ) → 0 < n → n ≤ 64 → Lacks 10 t → Lacks 10 e → is_check k ≡ true
    → card_form (ended (card_line n) (ended (target_key ++ t) (ended (expr_key ++ e) (ended (check_key ++ k) r)))) ≡ formed n t e k r
unfolding card_form
form-there n t e k r h b ft fe fk =
    let i : (card_number (decimal_text n) ≡ n) × Lacks 10 (decimal_text n) = number-there n h b in
    let r3 : List ℕ = ended (check_key ++ k) r in
    let r2 : List ℕ = ended (expr_key ++ e) r3 in
    let r1 : List ℕ = ended (target_key ++ t) r2 in
    ap with_number (field-there card_key (decimal_text n) r1 i.1)
    ∙ ap (λ (x : Field). with_target (decimal_text n) x) (field-there target_key t r2 ft)
    ∙ ap (λ (x : Field). with_expr (decimal_text n) t x) (field-there expr_key e r3 fe)
    ∙ ap (λ (x : Field). with_check (decimal_text n) t e x) (field-there check_key k r (five k fk).1)
    ∙ ap (λ (m : ℕ). numbered m t e k r) i.0
    ∙ ap (λ (x : Bool). cond (x && is_check k) (formed n t e k r) out) (lt-ltb 0 n h)
    ∙ ap (λ (x : Bool). cond x (formed n t e k r) out) fk

-- ---- a card's bytes
pub ended-append : (l r z : List ℕ) → ended l r ++ z ≡ ended l (r ++ z)
ended-append l r z = append_assoc l (10 ∷ r) z

pub bytes-before : (c : Card) (r : List ℕ) → card_bytes c ++ r ≡ card_before c r
bytes-before (card n t e) r =
    let d : List ℕ = check_key ++ check_text t e in
    ended-append (card_line n) (ended (target_key ++ t) (ended (expr_key ++ e) (ended d []))) r
    ∙ ap (ended (card_line n)) (ended-append (target_key ++ t) (ended (expr_key ++ e) (ended d [])) r
    ∙ ap (ended (target_key ++ t)) (ended-append (expr_key ++ e) (ended d []) r
    ∙ ap (ended (expr_key ++ e)) (ended-append d [] r)))

pub form-card : (n : ℕ) (t e r : List ℕ) → 0 < n → n ≤ 64 → Lacks 10 t → Lacks 10 e → card_form (card_bytes (card n t e) ++ r) ≡ formed n t e (check_text t e) r
form-card n t e r h b ft fe = ap card_form (bytes-before (card n t e) r) ∙ form-there n t e (check_text t e) r h b ft fe (check-is t e)

-- ---- a card, judged
module _ (formula : List ℕ → List ℕ → Verdict) where
  pub record Judged (last n : ℕ) (t e k r : List ℕ) (c : Card) (r' : List ℕ) : Type 0 where
    pub card-is : card n t e ≡ c
    pub rest : r ≡ r'
    pub check : k ≡ check_text t e
    pub rises : last < n
    pub accepted : formula t e ≡ Ok tt

  own : (v : Verdict) (c : Card) (r : List ℕ) (c' : Card) (r' : List ℕ) → unless_refused c r v ≡ taken c' r' → (v ≡ Ok tt) × (c ≡ c') × (r ≡ r')
  own (Ok _) c r c' r' h = (refl, cc, cc)
  own (Err a) c r c' r' h = let z : ◌≡◌ {A = ℕ} 0 1 = cc in absurd (omega arith)

  pub judged-is : (last n : ℕ) (t e k r : List ℕ) (c : Card) (r' : List ℕ) → judged formula last (formed n t e k r) ≡ taken c r' → Judged last n t e k r c r'
  unfolding judged
  judged-is last n t e k r c r' h = go (equal_bytes k (check_text t e)) refl (ltb last n) refl h
    where
      go : (x : Bool) → equal_bytes k (check_text t e) ≡ x → (y : Bool) → ltb last n ≡ y
          → cond x (cond y (unless_refused (card n t e) r (formula t e)) (refused 18)) (refused 17) ≡ taken c r' → Judged last n t e k r c r'
      go false q y p w = let z : ◌≡◌ {A = ℕ} 0 1 = cc in absurd (omega arith)
      go true q false p w = let z : ◌≡◌ {A = ℕ} 0 1 = cc in absurd (omega arith)
      go true q true p w =
          let o : (formula t e ≡ Ok tt) × (card n t e ≡ c) × (r ≡ r') = own (formula t e) (card n t e) r c r' w in
          record { card-is = o.1; rest = o.2; check = same_bytes k (check_text t e) q; rises = ltb-true last n p; accepted = o.0 }

  pub judged-there : (last n : ℕ) (t e r : List ℕ) → last < n → formula t e ≡ Ok tt → judged formula last (formed n t e (check_text t e) r) ≡ taken (card n t e) r
  unfolding judged
  judged-there last n t e r h a =
      ap (λ (x : Bool). cond x (cond (ltb last n) (unless_refused (card n t e) r (formula t e)) (refused 18)) (refused 17)) (same-itself (check_text t e))
      ∙ ap (λ (x : Bool). cond x (unless_refused (card n t e) r (formula t e)) (refused 18)) (lt-ltb last n h)
      ∙ ap (unless_refused (card n t e) r) a

  pub record Stands (last : ℕ) (s : List ℕ) (c : Card) (r : List ℕ) : Type 0 where
    pub bytes : s ≡ card_bytes c ++ r
    pub good : GoodCard formula last c

  pub from-form : (last : ℕ) (s : List ℕ) (n : ℕ) (t e k r : List ℕ) (c : Card) (r' : List ℕ) → Formed s n t e k r → Judged last n t e k r c r'
      → Stands last s c r'
  from-form last s n t e k r c r' i j =
      let ek : k ≡ check_text t e = j.check in
      let er : r ≡ r' = j.rest in
      let whole : s ≡ card_before (card n t e) r' =
      i.bytes ∙ ap (λ (l : List ℕ). ended (card_line n) (ended (target_key ++ t) (ended (expr_key ++ e) (ended (check_key ++ l) r)))) ek
      ∙ ap (card_before (card n t e)) er in
      subst (λ (c : Card). Stands last s c r') j.card-is
      (record { bytes = whole ∙ sym (bytes-before (card n t e) r'); good = good_card j.rises i.most j.accepted })

  pub card-is : (last : ℕ) (s : List ℕ) (c : Card) (r : List ℕ) → read_card formula last s ≡ taken c r → Stands last s c r
  unfolding judged
  card-is last s c r h = go (card_form s) refl h
    where
      go : (x : Form) → card_form s ≡ x → judged formula last x ≡ taken c r → Stands last s c r
      go out q w = let z : ◌≡◌ {A = ℕ} 0 1 = cc in absurd (omega arith)
      go (formed n t e k r') q w = from-form last s n t e k r' c r (form-is s n t e k r' q) (judged-is last n t e k r' c r w)

  pub card-there : (laws : JudgeLaws formula) {last : ℕ} {c : Card} (r : List ℕ) → GoodCard formula last c
      → read_card formula last (card_bytes c ++ r) ≡ taken c r
  card-there laws {last} r (good_card {n} {t} {e} h b a) =
      ap (judged formula last) (form-card n t e r (omega arith) b (laws.target_line t e a) (laws.expr_line t e a)) ∙ judged-there last n t e r h a
