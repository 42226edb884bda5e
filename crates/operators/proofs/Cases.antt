-- A rule that goes by its operands' kinds, where a match has found them: what the calls gave is what the rule gives. The machine reads
-- an integer of 32 bits as `to_z w32 (of_z w32 z)`, which is z.
use mathlib.Core.Path.{◌≡◌}
use lib.IntN.{ℤ}
use lib.Ieee.{Float}
use mir.Syntax.{w32}
use mir.Val.{SFits, to_z, of_z}
use mir.ValLaws.{to_z-of_z}
use Rattle.values.specs.declared.Value.{Value}
use Rattle.values.specs.declared.Value.TheVariants.{Int, Real}
use Rattle.values.specs.declared.Outcome.{Outcome}
use Rattle.operators.specs.declared.Pair.TheVariants.{Ints, Reals}
use Rattle.operators.specs.Operators.{as_real, pair_of, promoting, on_ints}

abbrev pub read : ℤ → ℤ
read z = to_z w32 (of_z w32 z)

pub on-int : {A : Type 0} (f : ℤ → A) {z : ℤ} {r : A} → SFits w32 z → r ≡ f (read z) → r ≡ f z
on-int f {z} F h = rw (to_z-of_z w32 z F) at h

module _ {A : Type 0} (f : ℤ → ℤ → A) (g : Float → Float → A) (a b : Value) {r : A} where
  pub as_ints : {i j : ℤ} → pair_of a b ≡ Ints i j → SFits w32 i → SFits w32 j → r ≡ f (read i) (read j) → r ≡ promoting f g a b
  as_ints {i} {j} e F G h = rw e (rw (to_z-of_z w32 i F, to_z-of_z w32 j G) at h)

  pub as-reals : {x y : Float} → pair_of a b ≡ Reals x y → r ≡ g x y → r ≡ promoting f g a b
  as-reals e h = rw e h

-- beside a real, an operand of either kind is real
pub beside-real : {A : Type 0} (f : ℤ → ℤ → A) (g : Float → Float → A) (v : Value) (y : Float) {r : A} → r ≡ promoting f g v (Real y) → r ≡ g (as_real v) y
beside-real f g (Int z) y h = h
beside-real f g (Real x) y h = h

pub on-ints : (f : ℤ → ℤ → Outcome) (a b : Value) {i j : ℤ} {r : Outcome} → a ≡ Int i → b ≡ Int j → SFits w32 i → SFits w32 j → r ≡ f (read i) (read j)
    → r ≡ on_ints f a b
on-ints f a b {i} {j} p q F G h = rw (p, q) (rw (to_z-of_z w32 i F, to_z-of_z w32 j G) at h)
