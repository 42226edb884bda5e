-- Integers in text: what the form of a number says of its digits, and how a sign is seen. Assumes nothing.
use Rattle.std.specs.Prelude.{Some, None}
use mathlib.Core.Path.{◌≡◌, refl, ◌∙◌}
use mathlib.Core.Bool.{Bool, true, false, ◌&&◌, cond, and-false}
use mathlib.Core.List.{List}
use Prim.Native.Nat.{ℕ, ◌+◌, ◌-◌, ◌*◌, ◌≤◌}
use native.Mathlib.Numerals.{add-one}
use native.Mathlib.Omega.{arith}
use lib.Dec.{T, ltb, ltb→lt}
use lib.Ieee.Fits.{and_r}
use borrow.Author.Tests.{eq-eqb, ne_eqb}
use Rattle.memory.specs.Names.{no_leading_zero, all_digits, decimal_value, number_below, number_rule}
use Rattle.lines.specs.Forms.{natural_form, negative_form}

-- ---- a choice between a pattern and none
pub picked : (t : Bool) (m n : ℕ) → Some n ≡ cond t (Some m) None → (t ≡ true) × (m ≡ n)
picked true m n e = (refl, cc)
picked false m n e = absurd (let z : ◌≡◌ {A = ℕ} 0 1 = cc in omega arith)

passed : (t : Bool) (m : ℕ) → None ≡ cond t (Some m) None → t ≡ false
passed true m e = absurd (let z : ◌≡◌ {A = ℕ} 0 1 = cc in omega arith)
passed false m e = refl

-- ---- the digits after a `-`
module _ (half : ℕ) (ds : List ℕ) where
  pub below : (n : ℕ) → Some n ≡ natural_form (half + 1) ds → n ≤ half
  below n e =
      let h = picked (number_below (half + 1) ds) (decimal_value ds) n e in
      let t : T (number_below (half + 1) ds) = rw h.0 tt in
      omega (arith, ltb→lt (decimal_value ds) (half + 1) (and_r (no_leading_zero ds && all_digits ds) (ltb (decimal_value ds) (half + 1)) t), h.1)

  pub no_zero : (n : ℕ) → Some n ≡ natural_form (half + 1) ds → n ≡ 0 → None ≡ negative_form half ds
  no_zero n e z =
      let h = picked (number_below (half + 1) ds) (decimal_value ds) n e in
      rw (eq-eqb (decimal_value ds) 0 (h.1 ∙ z), and-false)

  pub number : (n : ℕ) → Some n ≡ natural_form (half + 1) ds → (n ≡ 0 → ⊥) → Some (2 * half - n) ≡ negative_form half ds
  number n e z =
      let h = picked (number_below (half + 1) ds) (decimal_value ds) n e in
      rw (← add-one half, h.0, h.1, ne_eqb n 0 z)

  pub none : None ≡ natural_form (half + 1) ds → None ≡ negative_form half ds
  none e = rw (← add-one half, passed (number_below (half + 1) ds) (decimal_value ds) e)
