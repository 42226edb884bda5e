-- An integer and its pattern at every width: each is found from the other, and at the machine's widths they are its own readings.
use Rattle.std.proofs.Common.{◌≡◌, ℕ, zero, suc, ◌-◌, ◌*◌, ◌%◌, ◌^◌, ◌<◌, ◌≤◌, Bool, true, false, cond, ltb, ℤ, pos, negsuc, refl, ap, not-suc-le-zero, mod-lt, mod-eq_of_lt, zero-lt-suc, pow-suc, sub-one, arith, pow_pos, w8, w16, w32, w64, SFits, to_z, of_z, ltb-false, ltb-true, le-ltb, lt-ltb}
use lib.Arith.{comp_comp}
use lib.Pow.{pow-sub-lt}
use lib.Signed.{mag}
use mir.Syntax.{Width, w128}
use mir.Val.{bits, hbits, sel}
use mir.ValLaws.{of_z_fits}
use Rattle.values.specs.Patterns.{low_bits, signed_of}

halves : (k : ℕ) → 0 < k → 2 ^ k ≡ 2 ^ (k - 1) * 2
halves zero h = absurd (not-suc-le-zero h)
halves (suc k) h = rw (sub-one (suc k)) (pow-suc 2 k)

-- `mag z < 2 ^ (k - 1)` says that z lies from -2 ^ (k - 1) to 2 ^ (k - 1) - 1
pub signed_low : (k : ℕ) (z : ℤ) → 0 < k → mag z < 2 ^ (k - 1) → signed_of k (low_bits k z) ≡ z
signed_low k (pos n) p h =
    let f : n < 2 ^ k = omega (arith, halves k p) in
    rw (mod-eq_of_lt f, lt-ltb n (2 ^ (k - 1)) h)
signed_low k (negsuc n) p h =
    let f : n < 2 ^ k = omega (arith, halves k p) in
    let g : 2 ^ (k - 1) ≤ 2 ^ k - suc n = omega (arith, halves k p) in
    rw (mod-eq_of_lt f, le-ltb (2 ^ k - suc n) (2 ^ (k - 1)) g) (ap negsuc (comp_comp f))

pub low-lt : (k : ℕ) (z : ℤ) → low_bits k z < 2 ^ k
low-lt k (pos n) = mod-lt n (pow_pos k)
low-lt k (negsuc n) = pow-sub-lt k (zero-lt-suc (n % 2 ^ k))

pub signed-mag : (k n : ℕ) → 0 < k → n < 2 ^ k → mag (signed_of k n) < 2 ^ (k - 1)
signed-mag k n p h = by (ltb n (2 ^ (k - 1))) refl
  where
    by : (t : Bool) → ltb n (2 ^ (k - 1)) ≡ t → mag (cond t (pos n) (negsuc (2 ^ k - suc n))) < 2 ^ (k - 1)
    by true e = ltb-true n (2 ^ (k - 1)) e
    by false e = omega (arith, ltb-false n (2 ^ (k - 1)) e, halves k p)

pub low_signed : (k n : ℕ) → n < 2 ^ k → low_bits k (signed_of k n) ≡ n
low_signed k n h = by (ltb n (2 ^ (k - 1)))
  where
    by : (t : Bool) → low_bits k (cond t (pos n) (negsuc (2 ^ k - suc n))) ≡ n
    by true = mod-eq_of_lt h
    by false =
        let f : 2 ^ k - suc n < 2 ^ k = omega arith in
        rw (mod-eq_of_lt f) (comp_comp h)

-- ---- the machine's widths
below : (w : Width) (n : ℕ) → n < 2 ^ hbits w → n < 2 ^ bits w
below w n h = (of_z_fits w (pos n) (record { sfits = h })).fits

pub low-of_z : (w : Width) (z : ℤ) → SFits w z → low_bits (bits w) z ≡ of_z w z
low-of_z w (pos n) F = mod-eq_of_lt (below w n F.sfits)
low-of_z w (negsuc n) F = rw (mod-eq_of_lt (below w n F.sfits))

top_bit : (w : Width) → bits w - 1 ≡ hbits w
top_bit w8 = refl
top_bit w16 = refl
top_bit w32 = refl
top_bit w64 = refl
top_bit w128 = refl

picked : (t : Bool) (x y : ℤ) → cond t x y ≡ sel t x y
picked true x y = refl
picked false x y = refl

pub signed-to_z : (w : Width) (n : ℕ) → signed_of (bits w) n ≡ to_z w n
signed-to_z w n = rw (top_bit w) (picked (ltb n (2 ^ hbits w)) (pos n) (negsuc (2 ^ bits w - suc n)))
