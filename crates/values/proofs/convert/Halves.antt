-- Half of an integer, halves away from zero: it fits 64 bits. And the nearest whole number to a fraction as half of the cut of twice it.
use Rattle.std.proofs.Common.{◌≡◌, ℕ, zero, suc, ◌+◌, ◌*◌, ◌/◌, ◌%◌, ◌^◌, ◌<◌, ◌≤◌, Bool, true, false, ℤ, pos, negsuc, ◌+ℤ◌, sym, refl, ap, ◌∙◌, le-add_right, le_of_lt, mul-le-mul_right, zero-lt-suc, mul_assoc, mul_comm, mul-pos, mul_left_comm, arith, w64, SFits}
use native.Mathlib.Nat.{add-div_right}
use native.Mathlib.Nat.{div-div-eq-div-mul, mul-div-mul_left, mul-div-mul_right}
use lib.IntN.{neg_ℤ-+ℤ}
use lib.Signed.{quot_z, rem_z}
use lib.Ieee.Nearest.{div_mono}
use Rattle.reals.specs.Singles.{signed}

abbrev pub half : ℤ → ℤ
half z = quot_z z (pos 2) +ℤ rem_z z (pos 2)

halves : (q : ℕ) → q / 2 + q % 2 ≡ (q + 1) / 2
halves q = omega arith

pub half-signed : (s : Bool) (q : ℕ) → half (signed s q) ≡ signed s ((q + 1) / 2)
half-signed false q = ap pos (halves q)
half-signed true zero = refl
half-signed true (suc q) = sym (neg_ℤ-+ℤ (pos (suc q / 2)) (pos (suc q % 2))) ∙ ap (signed true) (halves (suc q))

-- ---- in 64 bits
signed-fits : (s : Bool) (q : ℕ) → q < 2 ^ 63 → SFits w64 (signed s q)
signed-fits false q h = record { sfits = h }
signed-fits true zero h = record { sfits = h }
signed-fits true (suc q) h = record { sfits = le_of_lt h }

pub quot_fits : (z : ℤ) → SFits w64 z → SFits w64 (quot_z z (pos 2))
quot_fits (pos a) F = signed-fits false (a / 2) (omega arith)
quot_fits (negsuc a) F = signed-fits true (suc a / 2) (omega arith)

pub rem-fits : (z : ℤ) → SFits w64 (rem_z z (pos 2))
rem-fits (pos a) = signed-fits false (a % 2) (omega arith)
rem-fits (negsuc a) = signed-fits true (suc a % 2) (omega arith)

pub half-fits : (z : ℤ) → SFits w64 z → SFits w64 (half z)
half-fits (pos a) F = signed-fits false (a / 2 + a % 2) (omega arith)
half-fits (negsuc a) F = rw (half-signed true (suc a)) (signed-fits true ((suc a + 1) / 2) (omega arith))

-- ---- fractions: the nearest whole number to n / p, halves up, is half of 2 * n / p, and no less than n / p
pub nearest-half : (n p : ℕ) → 0 < p → (2 * n / p + 1) / 2 ≡ (2 * n + p) / (2 * p)
nearest-half n p P = rw (← add-div_right (2 * n) P, div-div-eq-div-mul, mul_comm p 2)

twice : (n p : ℕ) → n * (2 * p) ≡ 2 * n * p
twice n p = mul_left_comm n 2 p ∙ sym (mul_assoc 2 n p)

pub nearest-ge : (n p : ℕ) → 0 < p → n / p ≤ (2 * n + p) / (2 * p)
nearest-ge n p P =
    div_mono n p (2 * n + p) (2 * p) P (mul-pos (zero-lt-suc 1) P) (rw (twice n p) (mul-le-mul_right p (le-add_right (2 * n) p)))

-- twice n / d, in units of which 2 * h are 1
pub twice-units : (n d h : ℕ) → 0 < h → 2 * (n * (2 * h) / d) / (2 * h) ≡ 2 * n / d
twice-units n d h H =
    mul-div-mul_left _ h (zero-lt-suc 1) ∙ div-div-eq-div-mul (n * (2 * h)) d h ∙ rw (twice n h) (mul-div-mul_right (2 * n) d H)
