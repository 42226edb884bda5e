-- A given value: the integer or the single of its pattern.
use mathlib.Core.Path.{◌≡◌, refl}
use mathlib.Core.Bool.{Bool, true, false, not, cond}
use Prim.Native.Nat.{ℕ}
use lib.Dec.{eqb}
use lib.Ieee as Ieee
use lib.Ieee.{binary32}
use borrow.Author.Tests.{eq-eqb, ne_eqb}
use Rattle.values.specs.declared.Value.TheVariants.{Int, Real}
use Rattle.values.specs.Patterns.{signed_of}
use Rattle.profile.specs.Parts.{real_value}
use Rattle.delivery.specs.Delivery.{given_value}

module _ (kind bits : ℕ) where
  pub integer : kind ≡ 0 → given_value kind bits ≡ Int (signed_of 32 bits)
  integer h = rw (eq-eqb kind 0 h)

  pub real : (kind ≡ 0 → ⊥) → given_value kind bits ≡ Real (Ieee.of_bits binary32 bits)
  real h = rw (ne_eqb kind 0 h)

  pub given-kind : not (eqb kind 0) ≡ real_value (given_value kind bits)
  given-kind = by (eqb kind 0)
    where
      by : (b : Bool) → not b ≡ real_value (cond b (Int (signed_of 32 bits)) (Real (Ieee.of_bits binary32 bits)))
      by true = refl
      by false = refl
