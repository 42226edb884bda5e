-- A word that names a cell: the image has the cell. Assumes nothing.
use Rattle.std.specs.Prelude.{Option, Some, None}
use mathlib.Core.Path.{◌≡◌, refl, subst}
use mathlib.Core.Bool.{Bool, true, false, ◌&&◌, cond}
use mathlib.Core.List.{List, [], ◌∷◌}
use Prim.Native.Nat.{ℕ, ◌<◌}
use native.Mathlib.Omega.{arith}
use lib.Dec.{T, ltb, ltb→lt}
use lib.Ieee.Fits.{and_r}
use lib.ListN.{length}
use borrow.Author.Tests.{eq-eqb, lt-ltb}
use Rattle.memory.specs.declared.Bank.{Bank}
use Rattle.memory.specs.Layout.{image_size, layout_of, has_cell}
use Rattle.memory.specs.Names.{letter_bank, no_leading_zero, all_digits, decimal_value, number_below, cell_after_letter, named_rule}
use Rattle.targets.proofs.Pairs.{first, second}

no_cell : (b : Bank) (i : ℕ) → ◌≡◌ {A = Option (Bank × ℕ)} None (Some (b, i)) → ⊥
no_cell b i e = let z : ◌≡◌ {A = ℕ} 0 1 = cc in omega arith

pub below : (k : ℕ) (cs : List ℕ) → number_below k cs ≡ true → decimal_value cs < k
below k cs n =
    let t : T (number_below k cs) = rw n tt in
    ltb→lt (decimal_value cs) k (and_r (no_leading_zero cs && all_digits cs) (ltb (decimal_value cs) k) t)

of-letter : (cs : List ℕ) (l : (Option Bank)) {b : Bank} {i : ℕ} → cell_after_letter cs l ≡ Some (b, i) → i < (layout_of b).elements
of-letter cs (Some a) {b} {i} e = by (number_below (layout_of a).elements cs) refl e
  where
    by : (t : Bool) → number_below (layout_of a).elements cs ≡ t → cond {A = Option (Bank × ℕ)} t (Some (a, decimal_value cs)) None ≡ Some (b, i) → i < (layout_of b).elements
    by true n f =
        let h = below (layout_of a).elements cs n in
        subst (λ (x : Bank). i < (layout_of x).elements) (first f) (subst (λ (x : ℕ). x < (layout_of a).elements) (second f) h)
    by false n f = absurd (no_cell b i f)
of-letter cs None {b} {i} e = absurd (no_cell b i e)

pub element-below : (w : List ℕ) {b : Bank} {i : ℕ} → named_rule w ≡ Some (b, i) → i < (layout_of b).elements
unfolding named_rule
element-below [] {b} {i} e = absurd (no_cell b i e)
element-below (c ∷ cs) e = of-letter cs (letter_bank c) e

pub has_named : (m w : List ℕ) {b : Bank} {i : ℕ} → length m ≡ image_size → named_rule w ≡ Some (b, i) → T (has_cell m b i)
has_named m w {b} {i} l e = rw (eq-eqb (length m) image_size l, lt-ltb i (layout_of b).elements (element-below w e)) tt
