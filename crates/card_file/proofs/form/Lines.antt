-- The four lines, found one after the other: one law for each way through `card_form`. Assumes nothing.
use mathlib.Core.Path.{◌≡◌, refl, sym, ap, ◌∙◌}
use mathlib.Core.Bool.{Bool, true, false, ◌&&◌, cond, and-false}
use mathlib.Core.List.{List}
use Prim.Native.Nat.{ℕ, ◌+◌, ◌-◌, ◌≤◌, ◌<◌}
use native.Mathlib.Omega.{arith}
use lib.Dec.{ltb}
use lib.ListN.{length, take, drop, length-drop}
use lib.Seq.{drop-drop}
use borrow.Author.Tests.{lt-ltb, le-ltb}
use Rattle.std.specs.Prelude.{Some, None}
use Rattle.lines.specs.Printing.{width_of}
use Rattle.lines.proofs.printing.Digits.{length_digits}
use Rattle.card_laws.specs.Lines.{field, field_of}
use Rattle.card_laws.specs.Cards.{card_key, target_key, expr_key, check_key, Form, formed, out, card_number, is_check, numbered, with_check, with_expr}
use Rattle.card_laws.specs.Cards.{with_target, with_number, card_form}
use Rattle.card_laws.proofs.Cards.{number_is, five}
use Rattle.card_file.specs.Spans.{length_in, target_at, expr_at, check_at, card_end, spans}
use Rattle.card_file.proofs.form.Fields.{FieldIn, field_in, no_field}

no_spans : None ≡ spans out
unfolding spans
no_spans = refl

-- a line found at a place: its value, and where the next line begins
record LineAt (s key : List ℕ) (at end : ℕ) (value after : List ℕ) : Type 0 where
  is : field_of key (drop at s) ≡ field value after
  end_is : end ≡ at + length key + length value
  inside : end + 1 ≤ length s
  text : take (length value) (drop (at + length key) s) ≡ value
  rest : drop (end + 1) s ≡ after

line_at : (s key : List ℕ) (at n end : ℕ) → at ≤ length s → end ≡ at + length key + n → (f : FieldIn key (drop at s) n)
    → LineAt s key at end f.value f.after
line_at s key at n end h e f =
    let o : end + 1 ≡ at + (length key + n + 1) = omega arith in
    record {
      is = f.is;
      end_is = omega (arith, f.size);
      inside = omega (arith, f.inside, length-drop at s);
      text = ap (λ (k : ℕ). take k (drop (at + length key) s)) f.size ∙ ap (take n) (sym (drop-drop (length key) at s)) ∙ f.text;
      rest = ap (λ (k : ℕ). drop k s) o ∙ sym (drop-drop (length key + n + 1) at s) ∙ f.rest;
    }

-- ---- the first line, which ends at a
pub record One (s : List ℕ) (a : ℕ) : Type 0 where
  pub v : List ℕ
  pub r : List ℕ
  pub form : card_form s ≡ with_target v (field_of target_key r)
  pub end : a ≡ 5 + length v
  pub inside : a + 1 ≤ length s
  pub text : take (a - 5) (drop 5 s) ≡ v
  pub rest : drop (a + 1) s ≡ r

pub none_1 : (s : List ℕ) → None ≡ length_in (field_of card_key (drop 0 s)) → None ≡ spans (card_form s)
unfolding card_form
none_1 s e = no_spans ∙ ap spans (sym (ap with_number (no_field card_key s e)))

pub one : (s : List ℕ) (n : ℕ) → Some n ≡ length_in (field_of card_key (drop 0 s)) → One s (5 + n)
unfolding card_form
one s n e =
    let f : FieldIn card_key s n = field_in card_key s n e in
    let l : LineAt s card_key 0 (5 + n) f.value f.after = line_at s card_key 0 n (5 + n) (omega arith) (omega arith) f in
    let k : 5 + n - 5 ≡ length f.value = omega (arith, f.size) in
    record {
      v = f.value;
      r = f.after;
      form = ap with_number f.is;
      end = omega (arith, f.size);
      inside = l.inside;
      text = ap (λ (m : ℕ). take m (drop 5 s)) k ∙ l.text;
      rest = l.rest;
    }

-- ---- the second, which ends at b
pub record Two (s : List ℕ) (a b : ℕ) : Type 0 where
  pub one : One s a
  pub t : List ℕ
  pub r : List ℕ
  pub form : card_form s ≡ with_expr one.v t (field_of expr_key r)
  pub end : b ≡ a + 8 + length t
  pub inside : b + 1 ≤ length s
  pub rest : drop (b + 1) s ≡ r

pub none_2 : (s : List ℕ) (a : ℕ) → One s a → None ≡ length_in (field_of target_key (drop (a + 1) s)) → None ≡ spans (card_form s)
none_2 s a o e = no_spans ∙ ap spans (sym (o.form ∙ ap (λ (l : List ℕ). with_target o.v (field_of target_key l)) (sym o.rest)
    ∙ ap (with_target o.v) (no_field target_key (drop (a + 1) s) e)))

pub two : (s : List ℕ) (a n : ℕ) → One s a → Some n ≡ length_in (field_of target_key (drop (a + 1) s)) → Two s a (a + 8 + n)
two s a n o e =
    let f : FieldIn target_key (drop (a + 1) s) n = field_in target_key (drop (a + 1) s) n e in
    let l : LineAt s target_key (a + 1) (a + 8 + n) f.value f.after = line_at s target_key (a + 1) n (a + 8 + n) o.inside (omega arith) f in
    record {
      one = o;
      t = f.value;
      r = f.after;
      form = o.form ∙ ap (λ (l : List ℕ). with_target o.v (field_of target_key l)) (sym o.rest) ∙ ap (with_target o.v) f.is;
      end = omega (arith, f.size);
      inside = l.inside;
      rest = l.rest;
    }

-- ---- the third, which ends at b
pub record Three (s : List ℕ) (a b c : ℕ) : Type 0 where
  pub two : Two s a b
  pub e : List ℕ
  pub r : List ℕ
  pub form : card_form s ≡ with_check two.one.v two.t e (field_of check_key r)
  pub end : c ≡ b + 6 + length e
  pub inside : c + 1 ≤ length s
  pub rest : drop (c + 1) s ≡ r

pub none-3 : (s : List ℕ) (a b : ℕ) → Two s a b → None ≡ length_in (field_of expr_key (drop (b + 1) s)) → None ≡ spans (card_form s)
none-3 s a b o e =
    no_spans ∙ ap spans (sym (o.form ∙ ap (λ (l : List ℕ). with_expr o.one.v o.t (field_of expr_key l)) (sym o.rest)
    ∙ ap (with_expr o.one.v o.t) (no_field expr_key (drop (b + 1) s) e)))

pub three : (s : List ℕ) (a b n : ℕ) → Two s a b → Some n ≡ length_in (field_of expr_key (drop (b + 1) s)) → Three s a b (b + 6 + n)
three s a b n o e =
    let f : FieldIn expr_key (drop (b + 1) s) n = field_in expr_key (drop (b + 1) s) n e in
    let l : LineAt s expr_key (b + 1) (b + 6 + n) f.value f.after = line_at s expr_key (b + 1) n (b + 6 + n) o.inside (omega arith) f in
    record {
      two = o;
      e = f.value;
      r = f.after;
      form = o.form ∙ ap (λ (l : List ℕ). with_expr o.one.v o.t (field_of expr_key l)) (sym o.rest) ∙ ap (with_expr o.one.v o.t) f.is;
      end = omega (arith, f.size);
      inside = l.inside;
      rest = l.rest;
    }

-- ---- the fourth, which ends at d
pub record Four (s : List ℕ) (a b c d : ℕ) : Type 0 where
  pub three : Three s a b c
  pub k : List ℕ
  pub r : List ℕ
  pub form : card_form s ≡ numbered (card_number three.two.one.v) three.two.t three.e k r
  pub end : d ≡ c + 7 + length k
  pub inside : d + 1 ≤ length s
  pub text : take (d - (c + 7)) (drop (c + 7) s) ≡ k

pub none-4 : (s : List ℕ) (a b c : ℕ) → Three s a b c → None ≡ length_in (field_of check_key (drop (c + 1) s)) → None ≡ spans (card_form s)
none-4 s a b c o e =
    no_spans ∙ ap spans (sym (o.form ∙ ap (λ (l : List ℕ). with_check o.two.one.v o.two.t o.e (field_of check_key l)) (sym o.rest)
    ∙ ap (with_check o.two.one.v o.two.t o.e) (no_field check_key (drop (c + 1) s) e)))

pub four : (s : List ℕ) (a b c n : ℕ) → Three s a b c → Some n ≡ length_in (field_of check_key (drop (c + 1) s)) → Four s a b c (c + 7 + n)
four s a b c n o e =
    let f : FieldIn check_key (drop (c + 1) s) n = field_in check_key (drop (c + 1) s) n e in
    let l : LineAt s check_key (c + 1) (c + 7 + n) f.value f.after = line_at s check_key (c + 1) n (c + 7 + n) o.inside (omega arith) f in
    let i : c + 7 + n - (c + 7) ≡ length f.value = omega (arith, f.size) in
    let j : c + 7 ≡ c + 1 + 6 = omega arith in
    record {
      three = o;
      k = f.value;
      r = f.after;
      form = o.form ∙ ap (λ (l : List ℕ). with_check o.two.one.v o.two.t o.e (field_of check_key l)) (sym o.rest)
          ∙ ap (with_check o.two.one.v o.two.t o.e) f.is;
      end = omega (arith, f.size);
      inside = l.inside;
      text = ap (λ (m : ℕ). take m (drop (c + 7) s)) i ∙ ap (λ (m : ℕ). take (length f.value) (drop m s)) j ∙ l.text;
    }

-- ---- number and check
module _ (s : List ℕ) (a b c d n : ℕ) (o : Four s a b c d) (u : n ≡ card_number (take (a - 5) (drop 5 s))) where
  number : card_number o.three.two.one.v ≡ n
  number = sym (u ∙ ap card_number o.three.two.one.text)

  abbrev Whole : Form
  Whole = formed n o.three.two.t o.three.e o.k o.r

  form : card_form s ≡ cond (ltb 0 n && is_check o.k) Whole out
  form = o.form ∙ ap (λ (m : ℕ). numbered m o.three.two.t o.three.e o.k o.r) number

  pub zero_number : n ≡ 0 → None ≡ spans (card_form s)
  zero_number z = no_spans ∙ ap spans (sym (form ∙ ap (λ (t : Bool). cond (t && is_check o.k) Whole out) (le-ltb 0 n (omega arith))))

  module _ {t : Bool} (v : t ≡ is_check (take (d - (c + 7)) (drop (c + 7) s))) where
    check : is_check o.k ≡ t
    check = sym (v ∙ ap is_check o.text)

    pub no-check : t ≡ false → None ≡ spans (card_form s)
    no-check z = no_spans ∙ ap spans (sym (form ∙ ap (λ (x : Bool). cond (ltb 0 n && x) Whole out) (check ∙ z)
        ∙ ap (λ (x : Bool). cond x Whole out) (and-false (ltb 0 n))))

    pub whole : (n ≡ 0 → ⊥) → t ≡ true
        → Some (record { number = n; target = a + 8; expr = b + 6; check = c + 7; end = d + 1 }) ≡ spans (card_form s)
    unfolding spans
    whole p z =
        let positive : 0 < n = omega (arith, p) in
        let f : card_form s ≡ Whole = form ∙ ap (λ (x : Bool). cond (x && is_check o.k) Whole out) (lt-ltb 0 n positive)
        ∙ ap (λ (x : Bool). cond x Whole out) (check ∙ z) in
        let w : length o.three.two.one.v ≡ width_of n = ap length (number_is o.three.two.one.v n number positive).0
        ∙ length_digits 10 (width_of n) n in
        let e1 : a + 8 ≡ target_at (width_of n) = omega (arith, o.three.two.one.end, w) in
        let e2 : b + 6 ≡ expr_at (width_of n) (length o.three.two.t) = omega (arith, o.three.two.one.end, o.three.two.end, w) in
        let e3 : c + 7 ≡ check_at (width_of n) (length o.three.two.t) (length o.three.e) =
        omega (arith, o.three.two.one.end, o.three.two.end, o.three.end, w) in
        let e4 : d + 1 ≡ card_end (width_of n) (length o.three.two.t) (length o.three.e) =
        omega (arith, o.three.two.one.end, o.three.two.end, o.three.end, o.end, w, (five o.k (check ∙ z)).0) in
        rw (e1, e2, e3, e4) (sym (ap spans f))
