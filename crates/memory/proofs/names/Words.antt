-- A word's cell, from its letter and its number, which is below the bank's limit. Assumes nothing.
use Rattle.std.specs.Prelude.{Option, Some, None}
use mathlib.Core.Path.{◌≡◌, refl, sym, ap}
use mathlib.Core.Bool.{Bool, true, false, cond}
use mathlib.Core.List.{List, [], ◌∷◌}
use Prim.Native.Nat.{ℕ, ◌≤◌, ◌<◌}
use native.Mathlib.Omega.{arith}
use lib.Dec.{lit≤}
use lib.ListN.{length, get_or, drop}
use Rattle.memory.specs.declared.Bank.{Bank}
use Rattle.memory.specs.declared.Bank.TheVariants.{X, C, «V», N, D, R}
use Rattle.memory.specs.Layout.{layout_of}
use Rattle.memory.specs.Names.{letter_bank, decimal_value, decimal_limit, number_below, number_rule, cell_after_letter, named_rule}

pub few : (b : Bank) → (layout_of b).elements ≤ decimal_limit
few X = lit≤ tt
few C = lit≤ tt
few «V» = lit≤ tt
few N = lit≤ tt
few D = lit≤ tt
few R = lit≤ tt

-- ---- the letter and the rest
pub empty : (w : List ℕ) → length w ≡ 0 → named_rule w ≡ None
unfolding named_rule
empty [] h = refl
empty (c ∷ cs) h = absurd (omega arith)

pub named : (w : List ℕ) {l : (Option Bank)} → 0 < length w → l ≡ letter_bank (get_or w 0 0) → named_rule w ≡ cell_after_letter (drop 1 w) l
unfolding named_rule
named [] h e = absurd (omega arith)
named (c ∷ cs) h e = ap (cell_after_letter cs) (sym e)

-- ---- the cell of a bank and its digits
no_number : (n : ℕ) → None ≡ Some n → ⊥
no_number n e = let z : ◌≡◌ {A = ℕ} 0 1 = cc in omega arith

module _ (b : Bank) (cs : List ℕ) where
  pub no_cell : number_rule (layout_of b).elements cs ≡ None → cell_after_letter cs (Some b) ≡ None
  no_cell e = by (number_below (layout_of b).elements cs) e
    where
      by : (t : Bool) → cond t (Some (decimal_value cs)) None ≡ None → cond {A = Option (Bank × ℕ)} t (Some (b, decimal_value cs)) None ≡ None
      by true f = absurd (no_number (decimal_value cs) (sym f))
      by false f = refl

  pub cell-is : {n : ℕ} → number_rule (layout_of b).elements cs ≡ Some n → cell_after_letter cs (Some b) ≡ Some (b, n)
  cell-is {n} e = by (number_below (layout_of b).elements cs) e
    where
      by : (t : Bool) → cond t (Some (decimal_value cs)) None ≡ Some n → cond {A = Option (Bank × ℕ)} t (Some (b, decimal_value cs)) None ≡ Some (b, n)
      by true f = cc
      by false f = absurd (no_number n f)
