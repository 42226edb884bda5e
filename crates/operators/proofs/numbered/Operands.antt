-- Operands that pair as reals.
use mathlib.Core.Path.{◌≡◌, refl, ap}
use mathlib.Core.Bool.{Bool, true, false, false≢true}
use lib.IntN.{ℤ}
use lib.Ieee.{Float}
use Rattle.values.specs.declared.Value.{Value}
use Rattle.values.specs.declared.Value.TheVariants.{Int, Real}
use Rattle.values.specs.declared.Outcome.{Outcome}
use Rattle.values.specs.declared.Outcome.TheVariants.{WrongKind}
use Rattle.operators.specs.declared.Pair.{Pair}
use Rattle.operators.specs.declared.Pair.TheVariants.{Ints, Reals}
use Rattle.operators.specs.Operators.{pair_of, on_ints}

abbrev is_reals : Pair → Bool
is_reals (Ints i j) = false
is_reals (Reals x y) = true

-- integers alone are taken
pub not-ints : (f : ℤ → ℤ → Outcome) (a b : Value) {x y : Float} → pair_of a b ≡ Reals x y → WrongKind ≡ on_ints f a b
not-ints f (Int i) (Int j) e = absurd (false≢true (ap is_reals e))
not-ints f (Int i) (Real y) e = refl
not-ints f (Real x) b e = refl
