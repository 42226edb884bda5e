-- The parts of a card that stands in its form, as the code takes them out of the text; and the judgement, one law for each way through it. Assumes nothing.
use mathlib.Core.Path.{◌≡◌, refl, sym, ap, ◌∙◌}
use mathlib.Core.Bool.{Bool, true, false}
use mathlib.Core.List.{List, [], ◌∷◌, ◌++◌}
use Prim.Native.Nat.{ℕ, ◌+◌, ◌-◌, ◌≤◌}
use native.Mathlib.Omega.{arith}
use lib.Dec.{ltb}
use lib.ListN.{length, take, drop, length-append}
use lib.Seq.{take_at, drop_at}
use Rattle.std.specs.Prelude.{Some, None, Result, Ok, Err, is_some}
use Rattle.tokens.specs.Symbols.{equal_bytes}
use Rattle.lines.specs.Printing.{width_of, low_digits}
use Rattle.lines.proofs.printing.Digits.{length_digits}
use Rattle.text.specs.Judge.{Judgement, accepted, judge}
use Rattle.text.specs.Judge as Judge
use Rattle.text.specs.Targets.{Target, to_cell, to_indexed, no_target, target_of}
use Rattle.memory.specs.declared.Bank.{Bank}
use Rattle.targets.specs.declared.Element.{Element}
use Rattle.targets.specs.Found.{found_of}
use Rattle.compiler.specs.Compile.{coded_answer}
use Rattle.card_laws.specs.Verdicts.{Verdict}
use Rattle.card_laws.specs.Lines.{ended}
use Rattle.card_laws.specs.Cards.{card, target_key, expr_key, check_key, card_line, check_of, checked_lines, check_text, Form, formed, out, card_form}
use Rattle.card_laws.specs.Reading.{unless_refused, judged}
use Rattle.card_laws.specs.Formulas.{judged_expr, judged_target, formula_answer}
use Rattle.card_laws.proofs.Cards.{Formed, form-is, five, ended-append}
use Rattle.card_file.specs.declared.form.FourLines.{FourLines}
use Rattle.card_file.specs.Spans.{card_places, spans, places_in, is_target, target_test}
use Rattle.compiler.specs.Compile.{refusal}
use Rattle.targets.proofs.Pairs.{answer-is}

-- ---- the formula
pub no_target_lem : (t e : List ℕ) → false ≡ is_target t → Err 2 ≡ formula_answer t e
unfolding formula_answer
no_target_lem t e h = by (target_of t) h
  where
    by : (x : Target) → false ≡ target_test x → Err 2 ≡ judged_target x (judged_expr (judge e))
    by (to_cell b i) w = absurd (let z : ◌≡◌ {A = ℕ} 0 1 = cc in omega arith)
    by (to_indexed b i) w = absurd (let z : ◌≡◌ {A = ℕ} 0 1 = cc in omega arith)
    by no_target w = refl

a-target : (t e : List ℕ) → true ≡ is_target t → judged_expr (judge e) ≡ formula_answer t e
unfolding formula_answer
a-target t e h = by (target_of t) h
  where
    by : (x : Target) → true ≡ target_test x → judged_expr (judge e) ≡ judged_target x (judged_expr (judge e))
    by (to_cell b i) w = refl
    by (to_indexed b i) w = refl
    by no_target w = absurd (let z : ◌≡◌ {A = ℕ} 0 1 = cc in omega arith)

pub accepted-formula : (t e : List ℕ) (n : ℕ) → true ≡ is_target t → Ok n ≡ coded_answer (judge e) → Ok tt ≡ formula_answer t e
accepted-formula t e n h q = by (judge e) q ∙ a-target t e h
  where
    by : (j : Judgement) → Ok n ≡ coded_answer j → Ok tt ≡ judged_expr j
    by (accepted x) w = refl
    by (Judge.refused a p) w = absurd (let z : ◌≡◌ {A = ℕ} 0 1 = cc in omega arith)

pub refused-formula : (t e : List ℕ) (a p : ℕ) → true ≡ is_target t → Err (refusal a p) ≡ coded_answer (judge e) → Err a ≡ formula_answer t e
refused-formula t e a p h q = by (judge e) q ∙ a-target t e h
  where
    by : (j : Judgement) → Err (refusal a p) ≡ coded_answer j → Err a ≡ judged_expr j
    by (accepted x) w = absurd (let z : ◌≡◌ {A = ℕ} 0 1 = cc in omega arith)
    by (Judge.refused b q) w = ap Err (answer-is w)

-- ---- the parts
part : (s p m q : List ℕ) (a n : ℕ) → s ≡ p ++ (m ++ q) → a ≡ length p → n ≡ length m → take n (drop a s) ≡ m
part s p m q a n e i j = ap (λ (l : List ℕ). take n (drop a l)) e ∙ ap (take n) (drop_at p (m ++ q) a (sym i)) ∙ take_at m q n (sym j)

pub record Parts (s : List ℕ) (f : FourLines) : Type 0 where
  pub n : ℕ
  pub t : List ℕ
  pub e : List ℕ
  pub k : List ℕ
  pub r : List ℕ
  pub form : card_form s ≡ formed n t e k r
  pub places : f ≡ card_places (card n t e)
  pub number : f.number ≡ n
  pub target_at : f.target ≡ 13 + width_of n
  pub expr-at : f.expr ≡ 19 + width_of n + length t
  pub check-at : f.check ≡ 26 + width_of n + length t + length e
  pub end-at : f.end ≡ 32 + width_of n + length t + length e
  pub inside : f.end ≤ length s
  pub lines : take (f.check - 7 + 1 - (f.target - 7)) (drop (f.target - 7) s) ≡ checked_lines t e
  pub target : take (f.expr - 6 - f.target) (drop f.target s) ≡ t
  pub expr : take (f.check - 7 - f.expr) (drop f.expr s) ≡ e
  pub check : take (f.check + 5 - f.check) (drop f.check s) ≡ k

pub parts : (s : List ℕ) (f : FourLines) → Some f ≡ spans (card_form s) → Parts s f
unfolding spans
parts s f h = go (card_form s) refl h
  where
    go : (x : Form) → card_form s ≡ x → Some f ≡ spans x → Parts s f
    go out q z = absurd (let i : ◌≡◌ {A = ℕ} 0 1 = cc in omega arith)
    go (formed n t e k r) q z =
        let w : f ≡ card_places (card n t e) = cc in
        let i : Formed s n t e k r = form-is s n t e k r q in
        let width : length (card_line n) ≡ 5 + width_of n = omega (arith, length_digits 10 (width_of n) n) in
        let five-long : length k ≡ 5 = (five k i.digits).0 in
        let rest : List ℕ = ended (check_key ++ k) r in
        let b0 : s ≡ ended (card_line n) [] ++ (checked_lines t e ++ rest) =
        i.bytes ∙ sym (ended-append (card_line n) [] (checked_lines t e ++ rest)
        ∙ ap (ended (card_line n)) (ended-append (target_key ++ t) (ended (expr_key ++ e) []) rest
        ∙ ap (ended (target_key ++ t)) (ended-append (expr_key ++ e) [] rest))) in
        let b1 : s ≡ ended (card_line n) target_key ++ (t ++ 10 ∷ ended (expr_key ++ e) rest) = i.bytes
        ∙ sym (ended-append (card_line n) target_key (t ++ 10 ∷ ended (expr_key ++ e) rest)) in
        let b2 : s ≡ ended (card_line n) (ended (target_key ++ t) expr_key) ++ (e ++ 10 ∷ rest) =
        i.bytes ∙ sym (ended-append (card_line n) (ended (target_key ++ t) expr_key) (e ++ 10 ∷ rest)
        ∙ ap (ended (card_line n)) (ended-append (target_key ++ t) expr_key (e ++ 10 ∷ rest))) in
        let b3 : s ≡ ended (card_line n) (ended (target_key ++ t) (ended (expr_key ++ e) check_key)) ++ (k ++ 10 ∷ r) =
        i.bytes ∙ sym (ended-append (card_line n) (ended (target_key ++ t) (ended (expr_key ++ e) check_key)) (k ++ 10 ∷ r)
        ∙ ap (ended (card_line n)) (ended-append (target_key ++ t) (ended (expr_key ++ e) check_key) (k ++ 10 ∷ r)
        ∙ ap (ended (target_key ++ t)) (ended-append (expr_key ++ e) check_key (k ++ 10 ∷ r)))) in
        let f1 : f.target ≡ 13 + width_of n = ap (λ (l : FourLines). l.target) w ∙ omega arith in
        let f2 : f.expr ≡ 19 + width_of n + length t = ap (λ (l : FourLines). l.expr) w ∙ omega arith in
        let f3 : f.check ≡ 26 + width_of n + length t + length e = ap (λ (l : FourLines). l.check) w ∙ omega arith in
        let f4 : f.end ≡ 32 + width_of n + length t + length e = ap (λ (l : FourLines). l.end) w ∙ omega arith in
        let l0 : length (ended (card_line n) []) ≡ 6 + width_of n = length-append (card_line n) (10 ∷ []) ∙ omega arith in
        let l1 : length (ended (card_line n) target_key) ≡ 13 + width_of n = length-append (card_line n) (10 ∷ target_key) ∙ omega arith in
        let l2 : length (ended (card_line n) (ended (target_key ++ t) expr_key)) ≡ 19 + width_of n + length t =
        omega (arith, length-append (card_line n) (10 ∷ ended (target_key ++ t) expr_key), length-append t (10 ∷ expr_key)) in
        let l3 : length (ended (card_line n) (ended (target_key ++ t) (ended (expr_key ++ e) check_key))) ≡ 26 + width_of n + length t + length e =
        omega (
          arith,
          length-append (card_line n) (10 ∷ ended (target_key ++ t) (ended (expr_key ++ e) check_key)),
          length-append t (10 ∷ ended (expr_key ++ e) check_key),
          length-append e (10 ∷ check_key),
        ) in
        let l4 : length (checked_lines t e) ≡ 14 + length t + length e = omega
        (arith, length-append t (10 ∷ ended (expr_key ++ e) []), length-append e (10 ∷ [])) in
        record {
          n = n;
          t = t;
          e = e;
          k = k;
          r = r;
          form = q;
          places = w;
          number = ap (λ (l : FourLines). l.number) w;
          target_at = f1;
          expr-at = f2;
          check-at = f3;
          end-at = f4;
          inside = omega (
            arith,
            ap length b3,
            length-append (ended (card_line n) (ended (target_key ++ t) (ended (expr_key ++ e) check_key))) (k ++ 10 ∷ r),
            l3,
            length-append k (10 ∷ r),
          );
          lines = part s (ended (card_line n) []) (checked_lines t e) rest (f.target - 7) (f.check - 7 + 1 - (f.target - 7)) b0 (omega arith) (omega arith);
          target = part s (ended (card_line n) target_key) t (10 ∷ ended (expr_key ++ e) rest) f.target (f.expr - 6 - f.target) b1 (omega arith)
              (omega arith);
          expr = part s (ended (card_line n) (ended (target_key ++ t) expr_key)) e (10 ∷ rest) f.expr (f.check - 7 - f.expr) b2 (omega arith) (omega arith);
          check = part s (ended (card_line n) (ended (target_key ++ t) (ended (expr_key ++ e) check_key))) k (10 ∷ r) f.check
              (f.check + 5 - f.check) b3 (omega arith) (omega arith);
        }

-- ---- the judgement
pub out_of_form : (s : List ℕ) (last : ℕ) → None ≡ spans (card_form s) → Err 16 ≡ places_in (judged formula_answer last (card_form s))
unfolding spans judged
out_of_form s last h = go (card_form s) h
  where
    go : (x : Form) → None ≡ spans x → Err 16 ≡ places_in (judged formula_answer last x)
    go out w = refl
    go (formed n t e k r) w = absurd (let i : ◌≡◌ {A = ℕ} 0 1 = cc in omega arith)

-- a formula's verdict on a card whose lines stand so
abbrev pub with_places : FourLines → Verdict → Result FourLines ℕ
with_places f (Ok _) = Ok f
with_places f (Err a) = Err a

module _ (s : List ℕ) (last : ℕ) (f : FourLines) (p : Parts s f) {ds : List ℕ} {sum : ℕ}
    (u : sum ≡ check_of (take (f.check - 7 + 1 - (f.target - 7)) (drop (f.target - 7) s))) (v : ds ≡ low_digits 10 5 sum) where
  digits : ds ≡ check_text p.t p.e
  unfolding check_text
  digits = v ∙ ap (low_digits 10 5) (u ∙ ap check_of p.lines)

  module _ {t : Bool} (w : t ≡ equal_bytes (take (f.check + 5 - f.check) (drop f.check s)) ds) where
    same : equal_bytes p.k (check_text p.t p.e) ≡ t
    same = sym (w ∙ ap (λ (l : List ℕ). equal_bytes l ds) p.check ∙ ap (equal_bytes p.k) digits)

    pub check-differs : {a : ℕ} → a ≡ 17 → t ≡ false → Err a ≡ places_in (judged formula_answer last (card_form s))
    unfolding judged
    check-differs is z = rw (p.form, same ∙ z) (ap Err is)

    module _ (z : t ≡ true) where
      above : {x y : Bool} → y ≡ ltb last f.number → y ≡ x → ltb last p.n ≡ x
      above e h = ap (ltb last) (sym p.number) ∙ sym e ∙ h

      pub not_above : {y : Bool} → y ≡ ltb last f.number → y ≡ false → Err 18 ≡ places_in (judged formula_answer last (card_form s))
      unfolding judged
      not_above e h = rw (p.form, same ∙ z, above e h)

      pub own : {v : Verdict} → v ≡ formula_answer (take (f.expr - 6 - f.target) (drop f.target s)) (take (f.check - 7 - f.expr) (drop f.expr s))
          → {y : Bool} → y ≡ ltb last f.number → y ≡ true → with_places f v ≡ places_in (judged formula_answer last (card_form s))
      unfolding judged
      own {v} q {y} g h =
          let i : v ≡ formula_answer p.t p.e = q ∙ ap (λ (l : List ℕ). formula_answer l _) p.target ∙ ap (formula_answer p.t) p.expr in
          ap (with_places f) i ∙ sym (rw (p.form, same ∙ z, above g h) (by (formula_answer p.t p.e)))
        where
          by : (x : Verdict) → places_in (unless_refused (card p.n p.t p.e) p.r x) ≡ with_places f x
          by (Ok _) = ap Ok (sym p.places)
          by (Err a) = refl

-- ---- the target
pub found-some : (g : Target) → is_some (found_of g) ≡ target_test g
found-some (to_cell b i) = refl
found-some (to_indexed b t) = refl
found-some no_target = refl
