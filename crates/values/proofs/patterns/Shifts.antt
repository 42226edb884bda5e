-- The machine's shifts, read as integers, are the rules'.
use Rattle.std.proofs.Common.{◌≡◌, ℕ, ◌*◌, ◌/◌, ◌%◌, ◌^◌, true, ℤ, pos, nat_abs, sym, ap, ◌∙◌, lt_of_le_of_lt, w32, SFits, to_z, of_z}
use lib.Signed.{shr_z, mag_shr}
use mir.ValLaws.{to_z-of_z}
use Rattle.values.specs.declared.Value.TheVariants.{Int}
use Rattle.values.specs.declared.Outcome.TheVariants.{Done}
use Rattle.values.specs.declared.ShiftOp.{ShiftOp}
use Rattle.values.specs.declared.ShiftOp.TheVariants.{Left, Right, RightZero}
use Rattle.values.specs.Integers.{between}
use Rattle.values.specs.Patterns.{low_bits, signed_of, shifted, shift_int}
use Rattle.values.proofs.patterns.Readings.{low-of_z, signed-to_z}

-- a count in range goes to the shift
pub shift-done : (o : ShiftOp) (a s : ℤ) → SFits w32 s → between (pos 0) (pos 31) s ≡ true
    → (z : ℤ) → z ≡ shifted o a (nat_abs (to_z w32 (of_z w32 s))) → Done (Int z) ≡ shift_int o a s
shift-done o a s S h z e = rw h (ap (λ (z : ℤ). Done (Int z)) (e ∙ rw (to_z-of_z w32 s S)))

module _ (a : ℤ) (F : SFits w32 a) (k : ℕ) where
  pub left-read : to_z w32 (of_z w32 a * 2 ^ k % 2 ^ 32) ≡ shifted Left a k
  left-read = rw (low-of_z w32 a F) (sym (signed-to_z w32 (of_z w32 a * 2 ^ k % 2 ^ 32)))

  pub right-read : to_z w32 (of_z w32 (shr_z (to_z w32 (of_z w32 a)) (2 ^ k))) ≡ shifted Right a k
  right-read =
      rw (to_z-of_z w32 a F)
      (to_z-of_z w32 (shr_z a (2 ^ k)) (record { sfits = lt_of_le_of_lt (mag_shr a (2 ^ k)) F.sfits }))

  -- by the pattern p: the call of `pattern` gives p, and the call of `from_pattern` r
  pub right-zero-read : (p : ℕ) (r : ℤ) → SFits w32 r → p ≡ low_bits 32 (to_z w32 (of_z w32 a)) → r ≡ signed_of 32 (p / 2 ^ k)
      → to_z w32 (of_z w32 r) ≡ shifted RightZero a k
  right-zero-read p r G e f =
      to_z-of_z w32 r G ∙ f ∙ ap (λ (n : ℕ). signed_of 32 (n / 2 ^ k)) (e ∙ ap (low_bits 32) (to_z-of_z w32 a F))
