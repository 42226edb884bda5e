-- How many binary digits a number above 2 ^ 24 has beyond the 24 that a single keeps: its leading zeros tell.
use Rattle.std.proofs.Common.{◌≡◌, ℕ, suc, ◌+◌, ◌-◌, ◌^◌, ◌<◌, ◌≤◌, lt_of_lt_of_le, le_of_suc-le-suc, lt_of_le_of_lt, le_of_lt, lt_of_not-le, not-le_of_lt, arith, lit≤, pow_mono}
use lib.Count.{count_leading_zeros, leading_top}

-- m has 24 + d digits
pub record Digits (m d : ℕ) : Type 0 where
  pub lo : 2 ^ (23 + d) ≤ m
  pub hi : m < 2 ^ (24 + d)
  pub most : d ≤ 8

module _ (m : ℕ) (big : 2 ^ 24 < m) (fits : m < 2 ^ 32) where
  -- the place of the leading digit
  top : (j : ℕ) × (count_leading_zeros 32 m + suc j ≡ 32) × (2 ^ j ≤ m) × (m < 2 ^ suc j)
  top = leading_top 32 m (lt_of_le_of_lt (lit≤ {n = 2 ^ 24} tt) big) fits

  top-ge : 24 ≤ top.0
  top-ge = le_of_suc-le-suc (lt_of_not-le (λ (g : suc top.0 ≤ 24). not-le_of_lt (lt_of_lt_of_le top.3 (pow_mono g)) (le_of_lt big)))

  pub few-zeros : count_leading_zeros 32 m ≤ 8
  few-zeros = omega (arith, top.1, top-ge)

  pub digits : Digits m (8 - count_leading_zeros 32 m)
  digits =
      let at : 23 + (8 - count_leading_zeros 32 m) ≡ top.0 = omega (arith, top.1, top-ge) in
      let next : 24 + (8 - count_leading_zeros 32 m) ≡ suc top.0 = omega (arith, top.1, top-ge) in
      record { lo = rw at top.2; hi = rw next top.3; most = omega arith }
