-- What `encode` makes of a normalized number: how many digits are dropped, and the pattern of those that are kept.
use mathlib.Core.Path.{◌≡◌, sym, ap, ◌∙◌}
use mathlib.Core.Logic.{◌↔◌}
use mathlib.Core.Bool.{false}
use Prim.Native.Nat.{ℕ, zero, suc, ◌+◌, ◌-◌, ◌*◌, ◌/◌, ◌%◌, ◌^◌, ◌≤◌, ◌<◌, zero-le}
use native.Mathlib.Nat.{le_trans, lt_of_le_of_lt, lt_of_lt_of_le, lt_of_not-le, not-le_of_lt, mul-pos, one-mul, mul-le-mul_left, mod-eq_of_lt}
use native.Mathlib.Nat.{le-div_iff_mul-le, div-lt_iff_lt-mul, pow-succ'}
use native.Mathlib.Omega.{arith}
use lib.Count.{count_leading_zeros, leading_top}
use lib.Dec.{lit<, lit≤}
use lib.Pow.{pow-add, pow_pos, pow_mono, pow-lt}
use lib.Ieee.{binary32, round, to_bits}
use lib.Ieee.Nearest.{closest}
use Rattle.literals.specs.declared.mixed.Mixed.{Mixed}
use Rattle.literals.specs.private.MixedNumbers.{Normalized, TiesToEven}
use Rattle.literals.proofs.MixedNumbers.{parts, left_lt}
use Rattle.literals.proofs.Halves.{kept}
use Rattle.literals.proofs.Patterns.{most-digits, pattern-is}

-- ---- w has 24 + k digits
pub record Digits (w k : ℕ) : Type 0 where
  pub some : 1 ≤ k
  pub most : k ≤ 24
  pub from : 2 ^ (23 + k) ≤ w
  pub to : w < 2 ^ (24 + k)

-- the leading zeros tell
pub record Zeros (w l : ℕ) : Type 0 where
  pub few : l ≤ 40
  pub digits : Digits w (40 - l)

pub zeros : (w : ℕ) → 2 ^ 24 ≤ w → w < 2 ^ 48 → Zeros w (count_leading_zeros 64 w)
zeros w W F = go (count_leading_zeros 64 w) (leading_top 64 w (lt_of_lt_of_le (lit< tt) W) (lt_of_lt_of_le F (lit≤ tt)))
  where
    go : (l : ℕ) → (j : ℕ) × (l + suc j ≡ 64) × (2 ^ j ≤ w) × (w < 2 ^ suc j) → Zeros w l
    go l (j, e, lo, hi) =
        let least : 24 < suc j = lt_of_not-le (λ (h : suc j ≤ 24). not-le_of_lt (lt_of_lt_of_le hi (pow_mono h)) W) in
        let most : j < 48 = lt_of_not-le (λ (h : 48 ≤ j). not-le_of_lt F (le_trans (pow_mono h) lo)) in
        let at : 23 + (40 - l) ≡ j = omega arith in
        let next : 24 + (40 - l) ≡ suc j = omega arith in
        record { few = omega arith; digits = record { some = omega arith; most = omega arith; from = rw at lo; to = rw next hi } }

-- ---- half of the unit of the digits that are kept
pub half_is : (k : ℕ) → k ≤ 24 → 1 * 2 ^ (k - 1) % 2 ^ 64 ≡ 2 ^ (k - 1)
half_is k h = rw one-mul (mod-eq_of_lt (pow-lt {j = 64} (omega arith)))

unit-is : (k : ℕ) → 1 ≤ k → 2 * 2 ^ (k - 1) ≡ 2 ^ k
unit-is k h = sym (pow-succ' 2 (k - 1)) ∙ ap (λ (j : ℕ). 2 ^ j) (omega arith)

-- ---- nothing is left where both digits of the remainder are 0
nothing_left : (h l a : ℕ) → l < a → (h + l ≡ 0) ↔ (h * a + l ≡ 0)
nothing_left h l a L = let A : 1 ≤ a = omega arith in (forth h l, λ e. omega (arith, mul-le-mul_left h A))
  where
    forth : (h l : ℕ) → h + l ≡ 0 → h * a + l ≡ 0
    forth zero l e = omega arith
    forth (suc h) l e = omega arith

-- ---- n * 2 ^ c over d, from n * 2 ^ i over d * 2 ^ k
crossed : (n d C L K I P : ℕ) → C * L * K ≡ I * P → n * C * L * (d * K) ≡ n * I * (d * P)
crossed n d C L K I P e = omega (arith, ap (λ (z : ℕ). n * d * z) e)

powers : (c k i p : ℕ) → i + p ≡ c + 149 + k → 2 ^ c * 2 ^ 149 * 2 ^ k ≡ 2 ^ i * 2 ^ p
powers c k i p e = rw (← pow-add 2 c 149, ← pow-add 2 (c + 149) k, ← pow-add 2 i p, e)

module _ {b a n c k i half r : ℕ} {x : Mixed} (N : Normalized b a n x i) (G : Digits x.whole k) (C : c ≤ 58) (H : half ≡ 2 ^ (k - 1))
    (Q : TiesToEven x.whole (2 * half) (x.high + x.low) r) where
  abbrev w : ℕ
  w = x.whole

  abbrev rest : ℕ
  rest = x.high * a + x.low

  abbrev d : ℕ
  d = b * a

  abbrev place : ℕ
  place = 149 + c + k - i

  R : rest < d
  R = left_lt x.high x.low b a N.represents.low N.represents.high

  unit : 2 * half ≡ 2 ^ k
  unit = ap (λ (z : ℕ). 2 * z) H ∙ unit-is k G.some

  quotient : (w * d + rest) / (d * 2 ^ k) ≡ w / 2 ^ k
  quotient = rw unit at (kept w half d rest (rw H (pow_pos (k - 1))) R)

  least : 2 ^ 23 ≤ (w * d + rest) / (d * 2 ^ k)
  least = rw quotient ((le-div_iff_mul-le (pow_pos k)).1 (rw (pow-add 2 23 k) at G.from))

  most : (w * d + rest) / (d * 2 ^ k) < 2 ^ 24
  most = rw quotient ((div-lt_iff_lt-mul (pow_pos k)).1 (rw (pow-add 2 24 k) at G.to))

  same : n * 2 ^ c * 2 ^ 149 * (d * 2 ^ k) ≡ (w * d + rest) * (d * 2 ^ place)
  same =
      rw (← parts w x.high x.low b a, ← N.represents.is)
      (crossed n d (2 ^ c) (2 ^ 149) (2 ^ k) (2 ^ i) (2 ^ place) (powers c k i place (omega (arith, N.few))))

  nearest : r ≡ closest (w * d + rest) (d * 2 ^ k)
  nearest = rw unit at (Q.is d rest R (nothing_left x.high x.low a N.represents.low))

  positive : 0 < d * 2 ^ k
  positive = mul-pos (lt_of_le_of_lt zero-le R) (pow_pos k)

  pub kept-le : r ≤ 2 ^ 24
  kept-le = rw nearest (most-digits (n * 2 ^ c) d (w * d + rest) (d * 2 ^ k) place (lt_of_le_of_lt zero-le R) positive same least most)

  pub encoded : place * 2 ^ 23 + r ≡ to_bits binary32 (round binary32 false (n * 2 ^ c) d)
  encoded = rw nearest (pattern-is (n * 2 ^ c) d (w * d + rest) (d * 2 ^ k) place (lt_of_le_of_lt zero-le R) positive same least most (omega (arith, G.most)))
