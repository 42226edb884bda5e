-- What is printed of a cell is what is read, bank by bank. Assumes nothing.
use Rattle.std.specs.Prelude.{Some}
use mathlib.Core.Path.{◌≡◌, refl, sym, ap, subst, ◌∙◌}
use mathlib.Core.Bool.{Bool, true, false, ◌&&◌, not, cond}
use mathlib.Core.List.{List, [], ◌∷◌}
use Prim.Native.Nat.{ℕ, zero, suc, ◌-◌, ◌*◌, ◌^◌, ◌<◌}
use native.Mathlib.Omega.{arith}
use lib.Dec.{eqb, ltb, lit<}
use borrow.Author.Tests.{not-true, ltb-true, ltb-false, lt-ltb, le-ltb, ne_eqb, eqb-true, eqb-false}
use Rattle.values.specs.Patterns.{signed_of}
use Rattle.words.proofs.Tests.{both, false-true}
use Rattle.memory.specs.declared.Bank.{Bank}
use Rattle.memory.specs.declared.Bank.TheVariants.{X, C, «V», N, D, R}
use Rattle.memory.specs.Names.{is_digit, all_digits, no_leading_zero, decimal_value, number_below}
use Rattle.memory.specs.Cells.{bit_of}
use Rattle.memory.proofs.names.Decimals.{digit-range}
use Rattle.lines.specs.Forms.{natural_form, negative_form, signed_form, cell_pattern}
use Rattle.lines.specs.Printing.{decimal_text, signed_text, cell_text}
use Rattle.lines.specs.private.Steps.{half_text}
use Rattle.lines.specs.Laws.{patterns, FormLaws}
use Rattle.lines.proofs.Decimals.{text, text_of}
use Rattle.lines.proofs.Patterns.{pattern-back}
use Rattle.lines.proofs.forms.Integers.{picked}
use Rattle.lines.proofs.forms.Hexadecimals as Hexadecimals
use Rattle.lines.proofs.printing.Signs.{half-text}

-- ---- a number without a sign
natural-back : (m n : ℕ) → n < m → natural_form m (decimal_text n) ≡ Some n
natural-back m n h =
    let t = text n in rw (t.plainly, t.digits, t.value, lt-ltb n m h)

-- a number below m is its own text
record Read (m : ℕ) (cs : List ℕ) (n : ℕ) : Type 0 where
  below : n < m
  same_text : cs ≡ decimal_text n

number_read : (m : ℕ) (cs : List ℕ) (n : ℕ) → number_below m cs ≡ true → decimal_value cs ≡ n → Read m cs n
number_read m cs n t e =
    let h = both (no_leading_zero cs && all_digits cs) (ltb (decimal_value cs) m) t in
    let g = both (no_leading_zero cs) (all_digits cs) h.0 in
    record { below = omega (arith, ltb-true (decimal_value cs) m h.1); same_text = sym (text_of cs g.0 g.1) ∙ ap decimal_text e }

-- a number is the text of its value
pub number-text : (m : ℕ) (cs : List ℕ) → number_below m cs ≡ true → cs ≡ decimal_text (decimal_value cs)
number-text m cs t = (number_read m cs (decimal_value cs) t refl).same_text

natural-only : (m : ℕ) (cs : List ℕ) (n : ℕ) → natural_form m cs ≡ Some n → Read m cs n
natural-only m cs n e =
    let h = picked (number_below m cs) (decimal_value cs) n (sym e) in number_read m cs n h.0 h.1

-- ---- a bit
bit-text : (n : ℕ) → n < 2 → decimal_text n ≡ signed_text (bit_of n)
bit-text zero h = refl
bit-text (suc zero) h = refl
bit-text (suc (suc n)) h = absurd (omega arith)

bit-back : (n : ℕ) → n < 2 → natural_form 2 (signed_text (bit_of n)) ≡ Some n
bit-back n h = rw (← bit-text n h) (natural-back 2 n h)

bit-only : (cs : List ℕ) (n : ℕ) → natural_form 2 cs ≡ Some n → cs ≡ signed_text (bit_of n)
bit-only cs n e =
    let r = natural-only 2 cs n e in r.same_text ∙ bit-text n r.below

-- ---- a number with a sign
no_sign : (half : ℕ) (cs : List ℕ) → no_leading_zero cs ≡ true → all_digits cs ≡ true → signed_form half cs ≡ natural_form half cs
no_sign half [] p d = false-true p
no_sign half (c ∷ cs) p d =
    let r = digit-range c (both (is_digit c) (all_digits cs) d).0 in
    rw (ne_eqb c 45 (λ e. omega (arith, r)))

module _ (half n : ℕ) (h : n < 2 * half) where
  signed_back : signed_form half (half_text half n) ≡ Some n
  signed_back = by (ltb n half) refl
    where
      by : (t : Bool) → ltb n half ≡ t → signed_form half (cond t (decimal_text n) (45 ∷ decimal_text (2 * half - n))) ≡ Some n
      by true e =
          let t = text n in
          no_sign half (decimal_text n) t.plainly t.digits ∙ natural-back half n (ltb-true n half e)
      by false e =
          let g = ltb-false n half e in
          let t = text (2 * half - n) in
          let back : 2 * half - (2 * half - n) ≡ n = omega arith in
          rw (t.plainly, t.digits, t.value, lt-ltb (2 * half - n) (suc half) (omega arith), ne_eqb (2 * half - n) 0 (λ z. omega arith), back)

record Signed (half : ℕ) (cs : List ℕ) (n : ℕ) : Type 0 where
  below : n < 2 * half
  same_text : cs ≡ half_text half n

module _ (half : ℕ) where
  positive : (cs : List ℕ) (n : ℕ) → natural_form half cs ≡ Some n → Signed half cs n
  positive cs n e =
      let r = natural-only half cs n e in
      let b = r.below in
      record { below = omega arith; same_text = r.same_text ∙ rw (lt-ltb n half b) }

  minus : (cs : List ℕ) (n : ℕ) → negative_form half cs ≡ Some n → Signed half (45 ∷ cs) n
  minus cs n e =
      let h = picked (number_below (suc half) cs && not (eqb (decimal_value cs) 0)) (2 * half - decimal_value cs) n (sym e) in
      let g = both (number_below (suc half) cs) (not (eqb (decimal_value cs) 0)) h.0 in
      let r = number_read (suc half) cs (decimal_value cs) g.0 refl in
      let b = r.below in
      let z = eqb-false (decimal_value cs) 0 (not-true (eqb (decimal_value cs) 0) g.1) in
      let back : 2 * half - n ≡ decimal_value cs = omega (arith, h.1) in
      record {
        below = omega (arith, h.1, z);
        same_text = ap (λ (l : List ℕ). 45 ∷ l) r.same_text ∙ rw (le-ltb n half (omega (arith, h.1)), back);
      }

  signed-only : (cs : List ℕ) (n : ℕ) → signed_form half cs ≡ Some n → Signed half cs n
  signed-only [] n e = absurd (let z : ◌≡◌ {A = ℕ} 0 1 = cc in omega arith)
  signed-only (c ∷ cs) n e = by (eqb c 45) refl e
    where
      by : (t : Bool) → eqb c 45 ≡ t → cond t (negative_form half cs) (natural_form half (c ∷ cs)) ≡ Some n → Signed half (c ∷ cs) n
      by true f g = subst (λ (x : ℕ). Signed half (x ∷ cs) n) (sym (eqb-true c 45 f)) (minus cs n g)
      by false f g = positive (c ∷ cs) n g

-- ---- at a width of k bits
module _ (k : ℕ) (p : 0 < k) where
  wide_back : (n : ℕ) → n < 2 ^ k → n < 2 * 2 ^ (k - 1) → signed_form (2 ^ (k - 1)) (signed_text (signed_of k n)) ≡ Some n
  wide_back n h g = rw (← half-text k n p h) (signed_back (2 ^ (k - 1)) n g)

  wide-only : 2 * 2 ^ (k - 1) ≡ 2 ^ k → (cs : List ℕ) (n : ℕ) → signed_form (2 ^ (k - 1)) cs ≡ Some n → cs ≡ signed_text (signed_of k n)
  wide-only d cs n e =
      let r = signed-only (2 ^ (k - 1)) cs n e in r.same_text ∙ half-text k n p (rw d at r.below)

back : (b : Bank) (n : ℕ) → n < patterns b → cell_pattern b (cell_text b n) ≡ Some n
back X n h = bit-back n h
back C n h = bit-back n h
back «V» n h = natural-back 65536 n h
back N n h = wide_back 16 (lit< tt) n h h
back D n h = wide_back 32 (lit< tt) n h h
back R n h = pattern-back n h

only : (b : Bank) (cs : List ℕ) (n : ℕ) → (b ≡ R → ⊥) → cell_pattern b cs ≡ Some n → cs ≡ cell_text b n
only X cs n r e = bit-only cs n e
only C cs n r e = bit-only cs n e
only «V» cs n r e = (natural-only 65536 cs n e).same_text
only N cs n r e = wide-only 16 (lit< tt) refl cs n e
only D cs n r e = wide-only 32 (lit< tt) refl cs n e
only R cs n r e = absurd (r refl)

below : (b : Bank) (cs : List ℕ) (n : ℕ) → cell_pattern b cs ≡ Some n → n < patterns b
below X cs n e = (natural-only 2 cs n e).below
below C cs n e = (natural-only 2 cs n e).below
below «V» cs n e = (natural-only 65536 cs n e).below
below N cs n e = (signed-only 32768 cs n e).below
below D cs n e = (signed-only 2147483648 cs n e).below
below R cs n e = Hexadecimals.below cs n e

pub form-laws : FormLaws
form-laws = record { back = back; only = only; below = below }
