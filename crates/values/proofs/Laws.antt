-- Patterns obey `PatternLaws`.
use Rattle.std.proofs.Common.{◌≡◌, ℕ, zero, suc, ◌-◌, ◌*◌, ◌/◌, ◌%◌, ◌^◌, ◌<◌, ◌≤◌, true, T, ℤ, pos, negsuc, ◌+ℤ◌, ◌-ℤ◌, ◌*ℤ◌, neg_ℤ, sym, ap, ◌∙◌, not-suc-le-zero, mod-lt, suc-mul, arith, pow_pos, le-ltb, lt-ltb, le-leb, leb-true}
use mathlib.Core.Bool.{and-true}
use native.Mathlib.Nat.{mod-add-div'}
use lib.Ieee.Bits.{is_true}
use lib.Signed.{mag, shr_z}
use Rattle.values.specs.Integers.{between}
use Rattle.values.specs.Patterns.{low_bits, signed_of}
use Rattle.values.specs.Laws.{PatternLaws}
use Rattle.values.proofs.patterns.Readings.{low-lt, signed-mag, signed_low, low_signed}
use Rattle.values.proofs.patterns.Elapsed.{elapsed}

-- ---- the range, as a bound: `mag z < n` says that z lies from -n to n - 1
module _ (n : ℕ) where
  bounded : (z : ℤ) → between (negsuc n) (pos (suc n - 1)) z ≡ true → mag z < suc n
  bounded (pos a) e = omega (arith, leb-true a (suc n - 1) e)
  bounded (negsuc a) e = omega (arith, leb-true a n (sym (and-true _) ∙ e))

  held : (z : ℤ) → mag z < suc n → between (negsuc n) (pos (suc n - 1)) z ≡ true
  held (pos a) h = le-leb a (suc n - 1) (omega arith)
  held (negsuc a) h = and-true _ ∙ le-leb a n (omega arith)

range-bound : (n : ℕ) (z : ℤ) → 0 < n → T (between (neg_ℤ (pos n)) (pos (n - 1)) z) → mag z < n
range-bound zero z p h = absurd (not-suc-le-zero p)
range-bound (suc n) z p h = bounded n z (is_true _ h)

bound-range : (n : ℕ) (z : ℤ) → 0 < n → mag z < n → T (between (neg_ℤ (pos n)) (pos (n - 1)) z)
bound-range zero z p h = absurd (not-suc-le-zero p)
bound-range (suc n) z p h = rw (held n z h) tt

-- ---- a difference below zero
below : (n m : ℕ) → n < m → pos n +ℤ neg_ℤ (pos m) ≡ negsuc (m - suc n)
below n zero h = absurd (not-suc-le-zero h)
below n (suc m) h = rw (lt-ltb n (suc m) h)

-- ---- what is left of an integer beside a multiple
low_rest : (k : ℕ) (z : ℤ) → pos (low_bits k z) +ℤ shr_z z (2 ^ k) *ℤ pos (2 ^ k) ≡ z
low_rest k (pos n) = ap pos (mod-add-div' n (2 ^ k))
low_rest k (negsuc n) =
    let r = mod-lt n (pow_pos k) in
    let q = mod-add-div' n (2 ^ k) in
    let m = suc-mul (n / 2 ^ k) (2 ^ k) in
    below (2 ^ k - suc (n % 2 ^ k)) (suc (n / 2 ^ k) * 2 ^ k) (omega arith) ∙ ap negsuc (omega arith)

-- ---- the top bit
signed_clear : (k n : ℕ) → n < 2 ^ (k - 1) → signed_of k n ≡ pos n
signed_clear k n h = rw (lt-ltb n (2 ^ (k - 1)) h)

signed_set : (k n : ℕ) → 2 ^ (k - 1) ≤ n → n < 2 ^ k → signed_of k n ≡ pos n -ℤ pos (2 ^ k)
signed_set k n h l = rw (le-ltb n (2 ^ (k - 1)) h) (sym (below n (2 ^ k) l))

pub pattern-laws : PatternLaws
pattern-laws = record {
  low_below = low-lt;
  low_rest = low_rest;
  signed_clear = signed_clear;
  signed_set = signed_set;
  signed_range = λ k n p h. bound-range (2 ^ (k - 1)) (signed_of k n) (pow_pos (k - 1)) (signed-mag k n p h);
  signed_low = λ k z p h. signed_low k z p (range-bound (2 ^ (k - 1)) z (pow_pos (k - 1)) h);
  low_signed = low_signed;
  elapsed = elapsed;
}
