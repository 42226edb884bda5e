-- A number of 24 + d binary digits as the nearest single: its 24 leading digits, rounded by the rest, times 2 ^ d.
use Rattle.std.proofs.Common.{◌≡◌, ℕ, suc, ◌+◌, ◌-◌, ◌*◌, ◌/◌, ◌%◌, ◌^◌, ◌<◌, ◌≤◌, false, T, ◌⊎◌, pos, sym, ap, ◌∙◌, inl, inr, le_trans, lt_of_lt_of_le, lt_of_le_of_lt, mul-le-mul_right, zero-lt-suc, mul_assoc, mul_comm, le_antisymm, eq-or-lt_of_le, mul-lt-mul_of_pos_right, mul-pos, one-mul, lt_of_not-le, le-div_iff_mul-le, mul-one, not-le_of_lt, div-one, arith, lit<, lit≤, le→leb, pow_pos, pow_mono, pow-add, shr_lt}
use Prim.Native.Nat.{compare}
use lib.Pow.{pow-lt}
use lib.Ieee.{binary32, size, units, round, mul, of_int, in_float}
use lib.Ieee.Digits.{size-lt, size-le}
use lib.Ieee.Fits.{core, round_is, nearest-le, round-fits, of_int-fits}
use lib.Ieee.Exact.{HasValue, units_val, round_exact}
use lib.Ieee.Nearest.{closest, closest_same, nearest-ge}
use lib.Ieee.Back.{round_whole, whole_unique}
use lib.Ieee.Positive.{positive_of_value, mul_at}
use Rattle.reals.proofs.Values.{factor-out}
use Rattle.values.proofs.convert.Digits.{Digits}

-- up to 2 ^ 24 a single holds every whole number
pub in-float : (n : ℕ) → n ≤ 2 ^ 24 → T (in_float binary32 (pos n))
unfolding in_float
in-float n h = le→leb n (2 ^ 24) h

of-whole : (n : ℕ) → n ≤ 2 ^ 24 → HasValue (of_int binary32 (pos n)) false n 1
unfolding of_int
of-whole n h = round_whole binary32 false n h

size_is : (n z : ℕ) → 2 ^ z ≤ n → n < 2 ^ suc z → size n ≡ suc z
size_is n z lo hi =
    le_antisymm (size-le n (suc z) hi) (lt_of_not-le (λ (g : size n ≤ z). not-le_of_lt (lt_of_lt_of_le (size-lt n) (pow_mono g)) lo))

-- a number up to 2 ^ 24 as a significand of 24 digits at a place
record Significand (k : ℕ) : Type 0 where
  digits : ℕ
  place : ℕ
  few : digits < 2 ^ 24
  is : k ≡ digits * 2 ^ place

significand : (k : ℕ) → k ≤ 2 ^ 24 → Significand k
significand k h = go (eq-or-lt_of_le h)
  where
    go : (k ≡ 2 ^ 24) ⊎ (k < 2 ^ 24) → Significand k
    go (inl e) = record { digits = 1; place = 24; few = lit< tt; is = e }
    go (inr l) = record { digits = k; place = 0; few = l; is = sym (mul-one k) }

module _ {m d : ℕ} (h : Digits m d) where
  -- ---- rounding m
  -- in units of 2 ^ -149 m has d + 149 digits more than a single keeps
  dropped : size (m * 2 ^ 149 / 1) - 24 ≡ d + 149
  dropped =
      let next : suc (23 + d + 149) ≡ 24 + d + 149 = omega arith in
      let lo : 2 ^ (23 + d + 149) ≤ m * 2 ^ 149 = rw (pow-add 2 (23 + d) 149) (mul-le-mul_right (2 ^ 149) h.lo) in
      let hi : m * 2 ^ 149 < 2 ^ suc (23 + d + 149) = rw (next, pow-add 2 (24 + d) 149) (mul-lt-mul_of_pos_right h.hi (pow_pos 149)) in
      rw (div-one, size_is (m * 2 ^ 149) (23 + d + 149) lo hi) (omega arith)

  rounds : round binary32 false m 1 ≡ units binary32 false (closest m (2 ^ d)) (d + 149)
  rounds =
      let same : m * 2 ^ 149 * 2 ^ d ≡ m * (1 * 2 ^ (d + 149)) = rw (one-mul, pow-add 2 d 149, mul_assoc m, mul_comm (2 ^ 149)) in
      let unit = mul-pos (zero-lt-suc 0) (pow_pos (d + 149)) in
      let near = closest_same (m * 2 ^ 149) (1 * 2 ^ (d + 149)) m (2 ^ d) unit (pow_pos d) same in
      round_is binary32 false m 1
      ∙ ap (λ (k : ℕ). core binary32 false (m * 2 ^ 149) 1 k) dropped
      ∙ ap (λ (x : ℕ). units binary32 false x (d + 149)) near

  -- ---- the rounded digits
  pub kept-lt : m / 2 ^ d < 2 ^ 24
  kept-lt = shr_lt 24 d h.hi

  pub closest-le : closest m (2 ^ d) ≤ 2 ^ 24
  closest-le = le_trans (nearest-le (m / 2 ^ d) (compare (m % 2 ^ d * 2) (2 ^ d))) kept-lt

  closest-pos : 0 < closest m (2 ^ d)
  closest-pos =
      let least : 2 ^ 23 ≤ m / 2 ^ d = (le-div_iff_mul-le (pow_pos d)).1 (rw (pow-add 2 23 d) at h.lo) in
      lt_of_lt_of_le (lit< tt) (le_trans least (nearest-ge (m / 2 ^ d) (compare (m % 2 ^ d * 2) (2 ^ d))))

  pub unit-le : 2 ^ d ≤ 2 ^ 24
  unit-le = pow_mono {i = d} {j = 24} (le_trans h.most (lit≤ tt))

  -- ---- k * 2 ^ d is a single: in units it is below the overflow
  module _ (k : ℕ) (small : k ≤ 2 ^ 24) where
    in-units : k * 2 ^ (d + 149) ≡ k * 2 ^ d * 2 ^ 149
    in-units = ap (λ (x : ℕ). k * x) (pow-add 2 d 149) ∙ sym (mul_assoc k (2 ^ d) (2 ^ 149))

    room : k * 2 ^ (d + 149) < 2 ^ 277
    room =
        let most : 2 ^ 24 * 2 ^ (d + 149) < 2 ^ 277 = rw (← pow-add 2 24 (d + 149)) (pow-lt {j = 277} (omega arith)) in
        lt_of_le_of_lt (mul-le-mul_right (2 ^ (d + 149)) small) most

    exact : HasValue (round binary32 false (k * 2 ^ d) 1) false (k * 2 ^ d) 1
    exact =
        let g = significand k small in
        let j = g.place + (d + 149) in
        let e : g.digits * 2 ^ j ≡ k * 2 ^ (d + 149) = rw (pow-add 2 g.place (d + 149), ← mul_assoc g.digits, ← g.is) in
        round_exact binary32 false (k * 2 ^ d) 1 g.digits j (zero-lt-suc 0) g.few (rw e room) (rw (e, mul-one) (sym in-units))

  -- ---- it is m, rounded
  value : HasValue (of_int binary32 (pos m)) false (closest m (2 ^ d) * 2 ^ d) 1
  unfolding of_int
  value =
      let k = closest m (2 ^ d) in
      let found = units_val binary32 false k (d + 149) (room k closest-le) in
      factor-out (2 ^ 149) (pow_pos 149) (round binary32 false m 1) false (k * 2 ^ d) 1 (rw (rounds, ← in-units k closest-le) found)

  pub product_is : mul binary32 (of_int binary32 (pos (closest m (2 ^ d)))) (of_int binary32 (pos (2 ^ d))) ≡ of_int binary32 (pos m)
  product_is =
      let k = closest m (2 ^ d) in
      let x = of_int binary32 (pos k) in
      let y = of_int binary32 (pos (2 ^ d)) in
      let z = round binary32 false (k * 2 ^ d) 1 in
      let vx = of-whole k closest-le in
      let vy = of-whole (2 ^ d) unit-le in
      let px = positive_of_value x k 1 vx closest-pos in
      let py = positive_of_value y (2 ^ d) 1 vy (pow_pos d) in
      let fz = round-fits binary32 false (k * 2 ^ d) 1 in
      let fm = of_int-fits binary32 (pos m) in
      mul_at binary32 x y k 1 (2 ^ d) 1 px py (zero-lt-suc 0) (zero-lt-suc 0) vx vy
      ∙ whole_unique binary32 z (of_int binary32 (pos m)) false (k * 2 ^ d) fz fm (exact k closest-le) value
