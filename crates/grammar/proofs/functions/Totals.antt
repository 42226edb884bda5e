-- The functions of the families, and those past the last: their form and operator by number, computed for each.
use mathlib.Core.Path.{◌≡◌, refl, ap}
use mathlib.Core.Bool.{Bool, true, false, ◌&&◌, ◌||◌}
use Prim.Native.Nat.{ℕ, ◌-◌, ◌≤◌, ◌<◌}
use native.Mathlib.Omega.{arith}
use lib.Dec.{eqb, ltb}
use lib.ListN.{get_or-eq_default}
use borrow.Author.Tests.{eqb-true, le-ltb}
use Rattle.operators.specs.Tables.{unary_number}
use Rattle.operators.specs.declared.UnaryOp.TheVariants as U
use Rattle.tokens.specs.declared.Function.{Function}
use Rattle.tokens.specs.declared.Function.TheVariants.{Abs}
use Rattle.tokens.specs.Words.{functions, function_count, first_match}
use Rattle.tokens.proofs.Tests.{both}
use Rattle.tokens.proofs.Below.{below, below_at}
use Rattle.grammar.specs.Symbols.{form_of}
use Rattle.grammar.specs.Functions.{form_number, operator_number, function_form, function_operator}

-- the function f is of the form k, and its operator's number is its place behind the function n
pub record Stands (f k n : ℕ) : Type 0 where
  pub form : function_form f ≡ k
  pub operator : function_operator f ≡ f - n

entry : ℕ → ℕ → ℕ → Bool
entry k n f = ltb f n || (eqb (function_form f) k && eqb (function_operator f) (f - n))

stands : (k n m f : ℕ) → below m (entry k n) ≡ true → n ≤ f → f < m → Stands f k n
unfolding entry
stands k n m f e l h = go (ltb f n) (le-ltb f n l) (below_at (entry k n) m f e h)
  where
    go : (x : Bool) → x ≡ false → (x || (eqb (function_form f) k && eqb (function_operator f) (f - n))) ≡ true → Stands f k n
    go true q t = let z : ◌≡◌ {A = ℕ} 0 1 = cc in absurd (omega arith)
    go false q t = let b = both (eqb (function_form f) k) _ t in record { form = eqb-true _ _ b.0; operator = eqb-true _ _ b.1 }

pub a-match : (f : ℕ) → first_match ≤ f → f < function_count → Stands f 7 first_match
unfolding below entry
a-match f = stands 7 first_match function_count f refl

-- past the last function stands the first
pub past-form : (f : ℕ) → function_count ≤ f → function_form f ≡ 1
past-form f h = ap (λ (g : Function). form_number (form_of g)) (get_or-eq_default functions Abs h)

pub past-operator : (f : ℕ) → function_count ≤ f → function_operator f ≡ unary_number U.Abs
past-operator f h = ap (λ (g : Function). operator_number (form_of g)) (get_or-eq_default functions Abs h)
