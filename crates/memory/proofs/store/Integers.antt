-- What is stored without reals: an integer, to a bank of integers.
use mathlib.Core.Path.{◌≡◌, refl}
use mathlib.Core.Bool.{Bool, true, false, not, ◌||◌, false≢true}
use lib.IntN.{ℤ}
use lib.Ieee.{Float}
use Rattle.values.specs.declared.Value.{Value}
use Rattle.values.specs.declared.Value.TheVariants.{Int, Real}
use Rattle.operators.specs.Reals.{real_value}

-- b says whether the bank is one of reals
not-real : (b : Bool) → not (b || false) ≡ true → b ≡ false
not-real true h = absurd (false≢true h)
not-real false h = refl

never-real : {A : Type 0} (b : Bool) → not (b || true) ≡ true → A
never-real true h = absurd (false≢true h)
never-real false h = absurd (false≢true h)

module _ (reals b : Bool) (v : Value) (e : reals ≡ false) where
  pub integer-bank : {z : ℤ} → v ≡ Int z → (reals || not (b || real_value v)) ≡ true → b ≡ false
  integer-bank d h = not-real b (rw (e, d) at h)

  pub no-real : {A : Type 0} {x : Float} → v ≡ Real x → (reals || not (b || real_value v)) ≡ true → A
  no-real d h = never-real b (rw (e, d) at h)
