-- One part taken from what is left of the file: what it adds to each output. Assumes nothing.
use mathlib.Core.Path.{◌≡◌, refl, sym, ap, subst, ◌∙◌}
use mathlib.Core.List.{List, [], ◌∷◌, ◌++◌}
use Prim.Native.Nat.{ℕ, ◌+◌, ◌-◌, ◌≤◌, ◌<◌}
use native.Mathlib.Omega.{arith}
use lib.ListN.{length, take, drop, length-drop, drop_of_length-le}
use lib.Seq.{length-take-le}
use Rattle.std.specs.Prelude.{Result, Ok, Err}
use Rattle.lines.specs.Printing.{width_of}
use Rattle.card_laws.specs.Formulas.{formula_answer}
use Rattle.salvage_laws.specs.Salvage.{parts, PartAnswer, keeps, leaves, last_kept, Part, part, kept_before, kept_bytes, name_lines, named_before}
use Rattle.salvage_laws.specs.Salvage.{named_bytes, part_answer, classify_parts}
use Rattle.lines.specs.private.Steps.{Puts}
use Rattle.lines.proofs.Stores.{none-put}
use Rattle.salvage_laws.proofs.Names.{name-size}
use Rattle.card_salvage.specs.private.Steps.{PartTo, answer_in, last_in, kept_of, kept_size, name_of}

-- the parts of what is left at a byte, behind a kept card with the number `last`
abbrev pub parts_left : List ℕ → ℕ → ℕ → List Part
parts_left f last at = classify_parts formula_answer last at (parts (drop at f))

pub none_left : (f : List ℕ) (last at : ℕ) → length f ≤ at → parts_left f last at ≡ []
none_left f last at h = ap (λ (l : List ℕ). classify_parts formula_answer last at (parts l)) (drop_of_length-le f {i = at} h)

-- the bytes from `at` to `end` are the next part, with this answer
pub record Taken (f : List ℕ) (last at end : ℕ) (a : Result ℕ ℕ) : Type 0 where
  pub order : at < end
  pub inside : end ≤ length f
  pub kept : kept_bytes (parts_left f last at) ≡ kept_of a (take (end - at) (drop at f)) ++ kept_bytes (parts_left f (last_in last a) end)
  pub named : named_bytes (parts_left f last at) ≡ name_of a at (end - at) ++ named_bytes (parts_left f (last_in last a) end)
  pub size : kept_size a (end - at) ≡ length (kept_of a (take (end - at) (drop at f)))

pub taken : {f : List ℕ} (last : ℕ) {at end : ℕ} {a : Result ℕ ℕ} → PartTo f at end
    → a ≡ answer_in (part_answer formula_answer last (take (end - at) (drop at f)))
    → Taken f last at end a
taken {f} last {at} {end} {a} p e =
    record {
      order = p.order;
      inside = p.inside;
      kept = ap kept_bytes whole ∙ kept_by x ∙ back (λ (b : Result ℕ ℕ). kept_of b q ++ kept_bytes (parts_left f (last_in last b) end));
      named = ap named_bytes whole ∙ named_by x ∙ back (λ (b : Result ℕ ℕ). name_of b at (end - at) ++ named_bytes (parts_left f (last_in last b) end));
      size = size-by a;
    }
  where
    q : List ℕ
    q = take (end - at) (drop at f)

    x : PartAnswer
    x = part_answer formula_answer last q

    long : length q ≡ end - at
    long = length-take-le (end - at) (drop at f) (omega (arith, length-drop at f, p.inside))

    place : at + length q ≡ end
    place = omega (arith, long, p.order)

    whole : parts_left f last at ≡ part at q x ∷ parts_left f (last_kept last x) end
    whole = ap (classify_parts formula_answer last at) p.cuts ∙ ap (λ (n : ℕ). part at q x
        ∷ classify_parts formula_answer (last_kept last x) n (parts (drop end f))) place

    back : {B : Type 0} (g : Result ℕ ℕ → B) → g (answer_in x) ≡ g a
    back g = ap g (sym e)

    kept_by : (y : PartAnswer) → kept_before (part at q y) (kept_bytes (parts_left f (last_kept last y) end)) ≡ kept_of (answer_in y) q
        ++ kept_bytes (parts_left f (last_in last (answer_in y)) end)
    kept_by (keeps c) = refl
    kept_by (leaves b) = refl

    named_by : (y : PartAnswer) → named_before (part at q y) (named_bytes (parts_left f (last_kept last y) end)) ≡ name_of (answer_in y) at (end - at)
        ++ named_bytes (parts_left f (last_in last (answer_in y)) end)
    named_by (keeps c) = refl
    named_by (leaves b) = ap (λ (n : ℕ). name_lines at n b ++ named_bytes (parts_left f last end)) long

    size-by : (b : Result ℕ ℕ) → kept_size b (end - at) ≡ length (kept_of b q)
    size-by (Ok n) = sym long
    size-by (Err b) = refl

-- ---- the two answers, and what each puts
module _ {a : Result ℕ ℕ} {n : ℕ} where
  pub kept-room : (p : List ℕ) (at : ℕ) {k : ℕ} → a ≡ Ok n → at + length (kept_of a p) ≤ k → at + length p ≤ k
  kept-room p at {k} e h = subst (λ (b : Result ℕ ℕ). at + length (kept_of b p) ≤ k) e h

  pub put-kept : {l m p : List ℕ} {at b : ℕ} → a ≡ Ok n → Puts l at m b p → Puts l at m b (kept_of a p)
  put-kept {l} {m} {p} {at} {b} e h = subst (λ (x : Result ℕ ℕ). Puts l at m b (kept_of x p)) (sym e) h

  pub left-kept : (l p : List ℕ) (at : ℕ) → a ≡ Err n → Puts l at l at (kept_of a p)
  left-kept l p at e = subst (λ (x : Result ℕ ℕ). Puts l at l at (kept_of x p)) (sym e) (none-put l at)

  pub name-long : (first size : ℕ) → a ≡ Err n → length (name_of a first size) ≡ 23 + width_of first + width_of size + width_of n
  name-long first size e = ap (λ (x : Result ℕ ℕ). length (name_of x first size)) e ∙ name-size first size n

  pub no_name : (first size : ℕ) → a ≡ Ok n → 0 ≡ length (name_of a first size)
  no_name first size e = sym (ap (λ (x : Result ℕ ℕ). length (name_of x first size)) e)

  pub name-there : (first size : ℕ) {k : ℕ} → a ≡ Err n → k ≡ length (name_lines first size n) → k ≡ length (name_of a first size)
  name-there first size e q = q ∙ sym (ap (λ (x : Result ℕ ℕ). length (name_of x first size)) e)

  pub put-name : {l m : List ℕ} {at b : ℕ} (first size : ℕ) → a ≡ Err n → Puts l at m b (name_lines first size n) → Puts l at m b (name_of a first size)
  put-name {l} {m} {at} {b} first size e h = subst (λ (x : Result ℕ ℕ). Puts l at m b (name_of x first size)) (sym e) h

  pub kept-name : (l : List ℕ) (at first size : ℕ) → a ≡ Ok n → Puts l at l at (name_of a first size)
  kept-name l at first size e = subst (λ (x : Result ℕ ℕ). Puts l at l at (name_of x first size)) (sym e) (none-put l at)
