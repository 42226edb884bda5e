-- A target that is a plain cell is one of its bank.
use Rattle.std.specs.Prelude.{Option, Some, None}
use mathlib.Core.Path.{◌≡◌, refl, ap}
use mathlib.Core.Bool.{Bool, true, false, ◌&&◌, cond, and-eq-true_iff}
use mathlib.Core.List.{List, [], ◌∷◌}
use Prim.Native.Nat.{ℕ, ◌<◌}
use native.Mathlib.Omega.{arith}
use borrow.Author.Tests.{ltb-true}
use Rattle.memory.specs.declared.Bank.{Bank}
use Rattle.memory.specs.declared.Bank.TheVariants.{X, C, «V», N, D, R}
use Rattle.memory.specs.Layout.{layout_of}
use Rattle.memory.specs.Names.{no_leading_zero, all_digits, decimal_value, letter_bank, number_below, cell_after_letter, named_rule, storable, target_rule}

-- a name of a cell, if it is one, is of an element that its bank has
data Stands : Option (Bank × ℕ) → Type 0 where
  cell : (b : Bank) (i : ℕ) → i < (layout_of b).elements → Stands (Some (b, i))
  other : Stands None

stands : (cs : List ℕ) (l : Option Bank) → Stands (cell_after_letter cs l)
stands cs (Some b) = by (number_below (layout_of b).elements cs) refl
  where
    by : (t : Bool) → number_below (layout_of b).elements cs ≡ t → Stands (cond t (Some (b, decimal_value cs)) None)
    by true e = cell b (decimal_value cs) (ltb-true (decimal_value cs) _ ((and-eq-true_iff (no_leading_zero cs && all_digits cs) _).0 e).1)
    by false e = other
stands cs None = other

words : (text : List ℕ) → Stands (named_rule text)
unfolding named_rule
words [] = other
words (c ∷ cs) = stands cs (letter_bank c)

stored : {x : (Option (Bank × ℕ))} → Stands x → Stands (storable x)
stored (cell X i h) = other
stored (cell C i h) = cell C i h
stored (cell «V» i h) = cell «V» i h
stored (cell N i h) = cell N i h
stored (cell D i h) = cell D i h
stored (cell R i h) = cell R i h
stored other = other

in-bank : {b : Bank} {i : ℕ} (x : (Option (Bank × ℕ))) → Stands x → x ≡ Some (b, i) → i < (layout_of b).elements
in-bank {b} {i} x (cell c j h) e =
    let q : ◌≡◌ {A = Bank × ℕ} (c, j) (b, i) = cc in
    rw (ap (λ x. x.0) q, ap (λ x. x.1) q) at h
in-bank x other e = let z : ◌≡◌ {A = ℕ} 0 1 = cc in absurd (omega arith)

pub target-element : {b : Bank} {i : ℕ} (target : List ℕ) → target_rule target ≡ Some (b, i) → i < (layout_of b).elements
target-element target e = in-bank (target_rule target) (stored (words target)) e
