-- The answer to a part: one law for each way through `part_answer`. Assumes nothing.
use mathlib.Core.Path.{◌≡◌, refl, sym, ap, ◌∙◌}
use mathlib.Core.List.{List, [], ◌∷◌, ◌++◌}
use Prim.Native.Nat.{ℕ, ◌+◌}
use native.Mathlib.Omega.{arith}
use lib.ListN.{length, length-append}
use Rattle.std.specs.Prelude.{Some, None, Result, Ok, Err}
use Rattle.lines.specs.Printing.{width_of, decimal_text}
use Rattle.lines.proofs.printing.Digits.{length_digits}
use Rattle.card_laws.specs.Lines.{ended}
use Rattle.card_laws.specs.Cards.{card, target_key, expr_key, check_key, Form, formed, out, card_form}
use Rattle.card_laws.specs.Reading.{CardRead, taken, refused, judged}
use Rattle.card_laws.specs.Formulas.{formula_answer}
use Rattle.card_laws.proofs.Cards.{Formed, form-is, five}
use Rattle.card_file.specs.declared.form.FourLines.{FourLines}
use Rattle.card_file.specs.Spans.{card_end, card_places, spans, places_in}
use Rattle.salvage_laws.specs.Salvage.{exact_form, answer_of, part_answer}
use Rattle.card_salvage.specs.private.Steps.{answer_in}

-- four lines and what follows them
form-size : (p : List ℕ) (n : ℕ) (t e k r : List ℕ) → card_form p ≡ formed n t e k r → length p ≡ card_end (width_of n) (length t) (length e) + length r
form-size p n t e k r q =
    let i : Formed p n t e k r = form-is p n t e k r q in
    let a : List ℕ = ended (check_key ++ k) r in
    let b : List ℕ = ended (expr_key ++ e) a in
    let c : List ℕ = ended (target_key ++ t) b in
    omega (
      arith,
      ap length i.bytes,
      length-append (decimal_text n) (10 ∷ c),
      length_digits 10 (width_of n) n,
      length-append t (10 ∷ b),
      length-append e (10 ∷ a),
      length-append k (10 ∷ r),
      (five k i.digits).0,
    )

abbrev Goal : List ℕ → ℕ → Result ℕ ℕ
Goal p last = answer_in (part_answer formula_answer last p)

pub no_form : (p : List ℕ) (last : ℕ) → None ≡ spans (card_form p) → Err 16 ≡ Goal p last
unfolding spans judged
no_form p last h = go (card_form p) h
  where
    go : (x : Form) → None ≡ spans x → Err 16 ≡ answer_in (answer_of (judged formula_answer last (exact_form x)))
    go out w = refl
    go (formed m t e k r) w = absurd (let z : ◌≡◌ {A = ℕ} 0 1 = cc in omega arith)

module _ (p : List ℕ) (last : ℕ) (f : FourLines) (h : Some f ≡ spans (card_form p)) where
  pub stray : (f.end ≡ length p → ⊥) → Err 16 ≡ Goal p last
  unfolding spans judged
  stray n = go (card_form p) refl h
    where
      go : (x : Form) → card_form p ≡ x → Some f ≡ spans x → Err 16 ≡ answer_in (answer_of (judged formula_answer last (exact_form x)))
      go out q w = refl
      go (formed m t e k (c ∷ r)) q w = refl
      go (formed m t e k []) q w =
          let z : f ≡ card_places (card m t e) = cc in
          absurd (n (ap (λ (l : FourLines). l.end) z ∙ omega (arith, form-size p m t e k [] q)))

  module _ (n : f.end ≡ length p) where
    nothing-more : exact_form (card_form p) ≡ card_form p
    unfolding spans
    nothing-more = go (card_form p) refl h
      where
        go : (x : Form) → card_form p ≡ x → Some f ≡ spans x → exact_form x ≡ x
        go out q w = refl
        go (formed m t e k []) q w = refl
        go (formed m t e k (c ∷ r)) q w =
            let z : f ≡ card_places (card m t e) = cc in
            absurd (omega (arith, n, ap (λ (l : FourLines). l.end) z, form-size p m t e k (c ∷ r) q))

    exactly : (x : Result ℕ ℕ) → x ≡ answer_in (answer_of (judged formula_answer last (card_form p))) → x ≡ Goal p last
    exactly x e = e ∙ sym (ap (λ (y : Form). answer_in (answer_of (judged formula_answer last y))) nothing-more)

    pub kept : {g : FourLines} → Ok g ≡ places_in (judged formula_answer last (card_form p)) → Ok g.number ≡ Goal p last
    kept {g} v = exactly (Ok g.number) (by (judged formula_answer last (card_form p)) v)
      where
        by : (x : CardRead) → Ok g ≡ places_in x → Ok g.number ≡ answer_in (answer_of x)
        by (refused a) y = absurd (let z : ◌≡◌ {A = ℕ} 0 1 = cc in omega arith)
        by (taken (card m t e) s) y = let z : g ≡ card_places (card m t e) = cc in ap (λ (l : FourLines). Ok l.number) z

    pub left : {a : ℕ} → Err a ≡ places_in (judged formula_answer last (card_form p)) → Err a ≡ Goal p last
    left {a} v = exactly (Err a) (by (judged formula_answer last (card_form p)) v)
      where
        by : (x : CardRead) → Err a ≡ places_in x → Err a ≡ answer_in (answer_of x)
        by (taken c s) y = absurd (let z : ◌≡◌ {A = ℕ} 0 1 = cc in omega arith)
        by (refused b) y = let e : a ≡ b = cc in ap Err e
