-- Serves the contracts of private functions alone: a fraction over b * a as a mixed number.
use Rattle.std.specs.Prelude.{◌≡◌, ◌↔◌, false, ℕ, ◌+◌, ◌*◌, ◌^◌, ◌≤◌, ◌<◌}
use Rattle.std.specs.Float.{binary32}
use Rattle.std.specs.Float.Ieee.{round, to_bits}
use Rattle.std.specs.Float.Ieee.Nearest.{closest}
use Rattle.literals.specs.declared.mixed.Mixed.{Mixed}

-- what stands over b * a
abbrev pub numerator : ℕ → ℕ → Mixed → ℕ
numerator b a x = (x.whole * b + x.high) * a + x.low

-- x is n / (b * a)
pub record Represents (b a n : ℕ) (x : Mixed) : Type 0 where
  pub b-is : x.b ≡ b
  pub a-is : x.a ≡ a
  pub low : x.low < a
  pub high : x.high < b
  pub is : n ≡ numerator b a x

-- x is n / (b * a), doubled so often that it has at least 25 digits before the point
pub record Normalized (b a n : ℕ) (x : Mixed) (times : ℕ) : Type 0 where
  pub represents : Represents b a (n * 2 ^ times) x
  pub wide : 2 ^ 24 ≤ x.whole
  pub fits : x.whole < 2 ^ 48
  pub few : times < 142

-- r is (w + rest / d) / unit to the nearest whole number, ties to even. All that is known of the rest, below d, is whether it is 0: it is where `left` is
pub record TiesToEven (w unit left r : ℕ) : Type 0 where
  pub is : (d rest : ℕ) → rest < d → (left ≡ 0) ↔ (rest ≡ 0) → r ≡ closest (w * d + rest) (d * unit)

-- r is the pattern of n * 2 ^ c / (b * a), for the n of which x is the `times`-fold double
pub record RoundedFrom (b a c : ℕ) (x : Mixed) (times r : ℕ) : Type 0 where
  pub is : (n : ℕ) → n * 2 ^ times ≡ numerator b a x → r ≡ to_bits binary32 (round binary32 false (n * 2 ^ c) (b * a))
