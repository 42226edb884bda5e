-- What the profile without reals makes of an outcome: as it stands where nothing real has a part in it.
use mathlib.Core.Path.{◌≡◌, refl}
use mathlib.Core.Bool.{Bool, true, false, not, ◌||◌, false≢true}
use lib.Ieee.{Float}
use Rattle.values.specs.declared.Value.{Value}
use Rattle.values.specs.declared.Value.TheVariants.{Real}
use Rattle.values.specs.declared.Outcome.{Outcome}
use Rattle.values.specs.declared.Outcome.TheVariants.{WrongKind}
use Rattle.operators.specs.Reals.{real_value}
use Rattle.operators.specs.private.Admitted.{admitted}

-- an operand that is an integer adds nothing
pub on-integer : (real : Bool) (o : Outcome) {r : Outcome} → r ≡ admitted false real o → r ≡ admitted false (real || false) o
on-integer true o e = e
on-integer false o e = e

-- one that is a real is not taken
pub of-real : (real : Bool) (o : Outcome) → WrongKind ≡ admitted false (real || true) o
of-real true o = refl
of-real false o = refl

-- a real is held with reals alone
pub no-real : {A : Type 0} {x : Float} (reals : Bool) (v : Value) → reals ≡ false → v ≡ Real x → (reals || not (real_value v)) ≡ true → A
no-real reals v e r h = absurd (false≢true (rw (e, r) at h))
