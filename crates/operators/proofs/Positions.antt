-- The element that an index names: what the tests of the code say of it, and the laws for a reader.
use Rattle.std.specs.Prelude.{Option, Result, Some, None, Ok, Err}
use mathlib.Core.Path.{◌≡◌, refl, sym, ◌∙◌}
use mathlib.Core.Bool.{Bool, true, false, false≢true}
use Prim.Native.Nat.{ℕ, zero, suc, ◌≤◌, ◌<◌}
use native.Mathlib.Omega.{arith}
use lib.Dec.{T, ltb, leb-suc-zero}
use lib.IntN.{ℤ, pos, negsuc, nat_abs}
use lib.Signed.{lt_z, non_neg}
use lib.Ieee.{Float, binary32, fits, of_bits, lt}
use lib.Ieee.Bits.{is_true}
use lib.Ieee.Scale.{finite}
use borrow.Author.Tests.{lt-ltb, le-ltb, ltb-true}
use mir.Syntax.{w32}
use mir.Val.{SFits}
use mir.ValLaws.{to_z-of_z}
use Rattle.reals.specs.Singles.{Single, negative, unit_count, signed, signed_units}
use Rattle.reals.proofs.Laws.{real-laws}
use Rattle.values.specs.declared.Value.{Value}
use Rattle.values.specs.declared.Value.TheVariants.{Int, Real}
use Rattle.values.specs.declared.Fault.{Fault}
use Rattle.values.specs.declared.Fault.TheVariants.{IndexError, OutOfRange}
use Rattle.values.specs.Singles.{zero_real}
use Rattle.values.specs.Convert.{truncated}
use Rattle.values.proofs.integers.Counts.{not_negative}
use Rattle.values.proofs.singles.Finite.{zero_pattern}
use Rattle.operators.specs.Operators.{element_below, cut_below, index_rule}
use Rattle.operators.proofs.Cases.{read}
use Rattle.operators.proofs.Gives.{picked}

-- ---- a number z, which the machine reads as `read z`
number-below : (n : ℕ) (z : ℤ) → lt_z z (pos 0) ≡ true → Err IndexError ≡ element_below n z
number-below n (pos i) e = absurd (false≢true (sym (leb-suc-zero i) ∙ e))
number-below n (negsuc i) e = refl

number-within : (n : ℕ) (z : ℤ) → T (non_neg z) → nat_abs z < n → Ok (nat_abs z) ≡ element_below n z
number-within n (pos i) t h = rw (lt-ltb i n h)
number-within n (negsuc i) t h = absurd t

number-beyond : (n : ℕ) (z : ℤ) → T (non_neg z) → n ≤ nat_abs z → Err IndexError ≡ element_below n z
number-beyond n (pos i) t h = rw (le-ltb i n h)
number-beyond n (negsuc i) t h = absurd t

module _ (z : ℤ) (F : SFits w32 z) where
  pub natural : lt_z (read z) (pos 0) ≡ false → T (non_neg z)
  natural e = not_negative z (rw (to_z-of_z w32 z F) at e)

  module _ (n : ℕ) where
    pub below : lt_z (read z) (pos 0) ≡ true → Err IndexError ≡ element_below n z
    below e = number-below n z (rw (to_z-of_z w32 z F) at e)

    pub within : lt_z (read z) (pos 0) ≡ false → nat_abs (read z) < n → Ok (nat_abs (read z)) ≡ element_below n z
    within e h = rw (to_z-of_z w32 z F) (number-within n z (natural e) (rw (to_z-of_z w32 z F) at h))

    pub beyond : lt_z (read z) (pos 0) ≡ false → n ≤ nat_abs (read z) → Err IndexError ≡ element_below n z
    beyond e h = number-beyond n z (natural e) (rw (to_z-of_z w32 z F) at h)

-- ---- an index that is a real x, against the pattern of 0.0
module _ (n : ℕ) (v : Value) (x : Float) (e : v ≡ Real x) where
  pub real-below : lt x (of_bits binary32 0) ≡ true → Err IndexError ≡ index_rule n v
  real-below t = rw (e, rw zero_pattern at t)

  pub real-cut : {k : (Option ℤ)} {p : (Result ℕ Fault)} → lt x (of_bits binary32 0) ≡ false → k ≡ truncated x → p ≡ cut_below n k → p ≡ index_rule n v
  real-cut t c h = rw (e, rw zero_pattern at t, sym c) h

-- ---- an element that is named is one of the n
no_element : (f : Fault) (i : ℕ) → Err f ≡ Ok i → ⊥
no_element f i e = let z : ◌≡◌ {A = ℕ} 0 1 = cc in omega arith

module _ (n i : ℕ) where
  abbrev Names : Result ℕ Fault → Type 0
  Names p = p ≡ Ok i → i < n

  none : (f : Fault) → Names (Err f)
  none f e = absurd (no_element f i e)

  of_number : (z : ℤ) → Names (element_below n z)
  of_number (pos j) = picked Names (ltb j n) _ _ (λ h e. let q : j ≡ i = cc in omega (arith, ltb-true j n h)) (none IndexError)
  of_number (negsuc j) = none IndexError

  of_cut : (c : Option ℤ) → Names (cut_below n c)
  of_cut (Some z) = of_number z
  of_cut None = none OutOfRange

  pub index_element : (v : Value) → Names (index_rule n v)
  index_element (Int z) = of_number z
  index_element (Real x) = picked Names (lt x zero_real) _ _ (λ h. none IndexError) (of_cut (truncated x))

-- ---- a single below zero, and both zeros
zero-single : Single zero_real
unfolding fits
zero-single = record { fit = tt; real = tt }

less_zero : (x : Float) → Single x → lt x zero_real ≡ lt_z (signed_units x) (pos 0)
less_zero x S = real-laws.less x zero_real S zero-single

no_size : (s : Bool) (m : ℕ) → signed s m ≡ pos 0 → m ≡ 0
no_size s zero e = refl
no_size true (suc m) e = cc
no_size false (suc m) e = cc

signed-zero : (s : Bool) → signed s 0 ≡ pos 0
signed-zero true = refl
signed-zero false = refl

module _ (n : ℕ) (x : Float) (S : Single x) where
  pub index_below_zero : T (lt_z (signed_units x) (pos 0)) → index_rule n (Real x) ≡ Err IndexError
  index_below_zero t = rw (less_zero x S, is_true (lt_z (signed_units x) (pos 0)) t)

  truncated-zero : signed_units x ≡ pos 0 → truncated x ≡ Some (pos 0)
  truncated-zero e = rw (is_true (finite x) S.real, no_size (negative x) (unit_count x) e, signed-zero (negative x))

  pub index_zero : signed_units x ≡ pos 0 → 0 < n → index_rule n (Real x) ≡ Ok 0
  index_zero e h = rw (less_zero x S, e, truncated-zero e, lt-ltb 0 n h)
