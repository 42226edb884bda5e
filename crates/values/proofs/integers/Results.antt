-- An operator's exact result on 32-bit integers, worked out at 64 bits: it fits there, so that what is read back is the result itself.
use Rattle.std.proofs.Common.{◌≡◌, ◌^◌, ◌<◌, ◌≤◌, Bool, true, false, cond, ◌&&◌, eqb, ℤ, pos, negsuc, ◌+ℤ◌, ◌-ℤ◌, ◌*ℤ◌, neg_ℤ, nat_abs, sym, refl, ap, ◌∙◌, mul-le-mul, pos_of_ne-zero, arith, pow_pos, w32, w64, SFits, to_z, of_z, eq-eqb, ne_eqb}
use lib.IntN.{+ℤ_idl}
use lib.Signed.{quot_z, rem_z, nat_abs-le}
use mir.Syntax.{Width}
use mir.Val.{hbits}
use mir.ValLaws.{to_z-of_z}
use Rattle.reals.specs.declared.ArithOp.{ArithOp}
use Rattle.reals.specs.declared.ArithOp.TheVariants.{Add, Sub, Mul, Div, Rem}
use Rattle.reals.specs.Operations.{divides}
use Rattle.values.specs.declared.Value.TheVariants.{Int}
use Rattle.values.specs.declared.Fault.TheVariants.{DividedByZero}
use Rattle.values.specs.declared.Outcome.{Outcome}
use Rattle.values.specs.declared.Outcome.TheVariants.{Done, Stopped}
use Rattle.values.specs.Integers.{exact_int, equal_z, int_arith}
use Rattle.values.proofs.Ranges.{sfits-range, widen, read_wide}
use Rattle.values.proofs.integers.Equality.{bits-same, equal-bits}
use Rattle.values.proofs.integers.Sizes.{add-size, sub-size, mul-size, quot-size, rem-size}

-- an integer as the code holds it: of 32 bits, cast to 64
abbrev pub wide : ℤ → ℤ
wide z = to_z w64 (of_z w64 (to_z w32 (of_z w32 z)))

pub cast-wide : (z : ℤ) → SFits w32 z → SFits w64 (to_z w32 (of_z w32 z))
cast-wide z F = rw (to_z-of_z w32 z F) (widen z F)

pub exact-within : (z : ℤ) → SFits w32 z → Done (Int z) ≡ exact_int z
exact-within z F = rw (sfits-range z F)

zero-fits : (w : Width) → SFits w (pos 0)
zero-fits w = record { sfits = pow_pos (hbits w) }

-- ---- the five operators
-- the exact result, apart from the zero divisor
abbrev pub result : ArithOp → ℤ → ℤ → ℤ
result Add a b = a +ℤ b
result Sub a b = a -ℤ b
result Mul a b = a *ℤ b
result Div a b = quot_z a b
result Rem a b = rem_z a b

rule : (o : ArithOp) (a b : ℤ)
    → int_arith o a b ≡ cond (divides o && equal_z b (pos 0)) (Stopped DividedByZero) (exact_int (result o a b))
rule Add a b = refl
rule Sub a b = refl
rule Mul a b = refl
rule Div a b = refl
rule Rem a b = refl

-- what 64 bits hold, and the size of an integer of 32
small-fits : (z : ℤ) → nat_abs z < 2 ^ 63 → SFits w64 z
small-fits (pos n) h = record { sfits = h }
small-fits (negsuc n) h = record { sfits = omega arith }

size : (z : ℤ) → SFits w32 z → nat_abs z ≤ 2 ^ 31
size z F = nat_abs-le z F.sfits

module _ (a b : ℤ) (F : SFits w32 a) (G : SFits w32 b) where
  pub fits : (o : ArithOp) → SFits w64 (result o a b)
  fits Add = small-fits (a +ℤ b) (omega (arith, add-size a b, size a F, size b G))
  fits Sub = small-fits (a -ℤ b) (omega (arith, sub-size a b, size a F, size b G))
  fits Mul = small-fits (a *ℤ b) (omega (arith, mul-size a b, mul-le-mul (size a F) (size b G)))
  fits Div = small-fits (quot_z a b) (omega (arith, quot-size a b, size a F))
  fits Rem = small-fits (rem_z a b) (omega (arith, rem-size a b, size a F))

  -- what the operation asks at 64 bits
  pub wide_fits : (o : ArithOp) → SFits w64 (result o (wide a) (wide b))
  wide_fits o = rw (read_wide a F, read_wide b G) (fits o)

  -- what a call of `exact` with the operation's result ensures
  read_back : (o : ArithOp) (r : Outcome) → r ≡ exact_int (to_z w64 (of_z w64 (result o (wide a) (wide b)))) → r ≡ exact_int (result o a b)
  read_back o r e = e ∙ rw (read_wide a F, read_wide b G, to_z-of_z w64 (result o a b) (fits o))

  pub arith-exact : (o : ArithOp) (r : Outcome) → (divides o && equal_z b (pos 0)) ≡ false
      → r ≡ exact_int (to_z w64 (of_z w64 (result o (wide a) (wide b)))) → r ≡ int_arith o a b
  arith-exact o r h e = rw (rule o a b, h) (read_back o r e)

-- ---- the zero divisor
module _ (b : ℤ) (G : SFits w32 b) where
  zero_test : (t : Bool) → eqb (of_z w32 b) 0 ≡ t → equal_z b (pos 0) ≡ t
  zero_test t e = sym (equal-bits b (pos 0) G (zero-fits w32)) ∙ e

  pub arith-zero : (o : ArithOp) (a : ℤ) → divides o ≡ true → of_z w32 b ≡ 0 → Stopped DividedByZero ≡ int_arith o a b
  arith-zero o a d e = rw (rule o a b, d, zero_test true (eq-eqb (of_z w32 b) 0 e))

  module _ (h : of_z w32 b ≡ 0 → ⊥) where
    pub not-zero : equal_z b (pos 0) ≡ false
    not-zero = zero_test false (ne_eqb (of_z w32 b) 0 h)

    pub divisor-wide : 0 < of_z w64 (to_z w32 (of_z w32 b))
    divisor-wide =
        rw (to_z-of_z w32 b G)
        (pos_of_ne-zero (λ e. h (ap (of_z w32) (bits-same w64 b (pos 0) (widen b G) (zero-fits w64) e))))

-- ---- negation, which the machine does as 0 - a
module _ (a : ℤ) (F : SFits w32 a) where
  pub neg-fits : SFits w64 (pos 0 -ℤ wide a)
  neg-fits = wide_fits (pos 0) a (zero-fits w32) F Sub

  pub neg-back : (r : Outcome) → r ≡ exact_int (to_z w64 (of_z w64 (pos 0 -ℤ wide a))) → r ≡ exact_int (neg_ℤ a)
  neg-back r e = read_back (pos 0) a (zero-fits w32) F Sub r e ∙ ap exact_int (+ℤ_idl (neg_ℤ a))
