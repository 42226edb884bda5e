-- The pattern of a rounded fraction: s digits at the place k, where k is how many digits beyond 24 the fraction has in units.
use mathlib.Core.Path.{◌≡◌, sym, ap, ◌∙◌}
use mathlib.Core.Logic.{◌⊎◌, inl, inr}
use mathlib.Core.Bool.{false}
use Prim.Native.Nat.{ℕ, suc, ◌+◌, ◌-◌, ◌*◌, ◌/◌, ◌%◌, ◌^◌, ◌≤◌, ◌<◌, compare}
use native.Mathlib.Nat.{pow-succ', le_trans, lt_of_le_of_lt, lt_of_lt_of_le, lt_of_not-le, not-le_of_lt, mul-le-mul_right, mul-pos}
use native.Mathlib.Nat.{div-div-eq-div-mul, div-lt_iff_lt-mul, le-div_iff_mul-le, eq-or-lt_of_le}
use native.Mathlib.Omega.{arith}
use lib.Pow.{pow-add, pow_pos, pow_mono, pow-lt}
use lib.Ieee.{binary32, round, size, to_bits, of_bits}
use lib.Ieee.Digits.{size-lt, size-le}
use lib.Ieee.Fits.{nearest-le, round-fits}
use lib.Ieee.Nearest.{closest, closest_same, div_same, nearest-ge}
use lib.Ieee.Order.{drop}
use lib.Ieee.Scale.{grid, round_val}
use borrow.Author.Tests.{lt-leb, ne_eqb}
use Rattle.reals.specs.Singles.{Has}
use Rattle.reals.specs.Laws.{pattern_units}
use Rattle.reals.proofs.Bridge.{has}
use Rattle.reals.proofs.Laws.{real-laws}

-- ---- the pattern k * 2 ^ 23 + s stands for s * 2 ^ k units: the carry of s past 24 digits is one more in the exponent's field
module _ (k s : ℕ) (K : k < 253) (least : 2 ^ 23 ≤ s) (most : s ≤ 2 ^ 24) where
  abbrev p : ℕ
  p = k * 2 ^ 23 + s

  field : p % 2 ^ 31 / 2 ^ 23 < 255
  field = omega arith

  units-are : pattern_units p ≡ s * 2 ^ k
  units-are =
      rw (ne_eqb (p % 2 ^ 31 / 2 ^ 23) 0 (λ e. omega arith))
      (go (eq-or-lt_of_le most))
    where
      go : (s ≡ 2 ^ 24) ⊎ (s < 2 ^ 24) → (2 ^ 23 + p % 2 ^ 23) * 2 ^ (p % 2 ^ 31 / 2 ^ 23 - 1) ≡ s * 2 ^ k
      go (inl e) =
          let z : p % 2 ^ 31 / 2 ^ 23 - 1 ≡ suc k = omega arith in
          let m : p % 2 ^ 23 ≡ 0 = omega arith in
          rw (z, m, e, pow-succ' 2 k) (omega arith)
      go (inr l) =
          let z : p % 2 ^ 31 / 2 ^ 23 - 1 ≡ k = omega arith in
          let m : 2 ^ 23 + p % 2 ^ 23 ≡ s = omega arith in
          rw (z, m)

  stands : Has false (s * 2 ^ k) (of_bits binary32 p)
  stands = rw (lt-leb (2 ^ 31) p (omega arith), units-are) at (real-laws.pattern p field)

  under : s * 2 ^ k < 2 ^ 277
  under = lt_of_le_of_lt (mul-le-mul_right (2 ^ k) most) (rw (← pow-add 2 24 k) (pow-lt {j = 277} (omega arith)))

  pub encodes : (num den : ℕ) → grid binary32 num den ≡ s * 2 ^ k → p ≡ to_bits binary32 (round binary32 false num den)
  encodes num den e =
      let x = round binary32 false num den in
      let h : Has false (s * 2 ^ k) x = has false (s * 2 ^ k) x (round-fits binary32 false num den) (rw e at (round_val binary32 num den (rw e under))) in
      sym (ap (to_bits binary32) (real-laws.only false (s * 2 ^ k) x (of_bits binary32 p) h stands) ∙ real-laws.encode_decode p (omega arith) field)

-- ---- num / den is m / u at the place k, and m / u has 24 digits
module _ (num den m u k : ℕ) (D : 0 < den) (U : 0 < u) (same : num * 2 ^ 149 * u ≡ m * (den * 2 ^ k)) (least : 2 ^ 23 ≤ m / u) (most : m / u < 2 ^ 24) where
  abbrev a : ℕ
  a = num * 2 ^ 149

  quotient : a / den / 2 ^ k ≡ m / u
  quotient = div-div-eq-div-mul a den (2 ^ k) ∙ div_same a (den * 2 ^ k) m u (mul-pos D (pow_pos k)) U same

  from : 2 ^ (23 + k) ≤ a / den
  from = rw (pow-add 2 23 k) ((le-div_iff_mul-le (pow_pos k)).0 (rw quotient least))

  to : a / den < 2 ^ (24 + k)
  to = rw (pow-add 2 24 k) ((div-lt_iff_lt-mul (pow_pos k)).0 (rw quotient most))

  dropped : drop 24 a den ≡ k
  dropped =
      let more : 23 + k < size (a / den) = lt_of_not-le (λ h. not-le_of_lt (lt_of_lt_of_le (size-lt (a / den)) (pow_mono h)) from) in
      omega (arith, size-le (a / den) (24 + k) to)

  pub least-digits : 2 ^ 23 ≤ closest m u
  least-digits = le_trans least (nearest-ge (m / u) (compare (m % u * 2) u))

  pub most-digits : closest m u ≤ 2 ^ 24
  most-digits = le_trans (nearest-le (m / u) (compare (m % u * 2) u)) most

  pub pattern-is : k < 253 → k * 2 ^ 23 + closest m u ≡ to_bits binary32 (round binary32 false num den)
  pattern-is K =
      encodes k (closest m u) K least-digits most-digits num den
      (ap (λ (j : ℕ). closest a (den * 2 ^ j) * 2 ^ j) dropped ∙ ap (λ (z : ℕ). z * 2 ^ k) (closest_same a (den * 2 ^ k) m u (mul-pos D (pow_pos k)) U same))
