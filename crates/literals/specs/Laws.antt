-- What a reader needs of `nearest_decimal`: proofs/Laws.antt proves this record. The result of `Rounds` is one value (`one` of RealLaws), so
-- these laws determine every literal.
use Rattle.std.specs.Prelude.{◌≡◌, true, false, ℕ, ◌^◌, ◌<◌, ℤ}
use Rattle.std.specs.Float.Ieee as Ieee
use Rattle.std.specs.Float.{binary32}
use Rattle.reals.specs.Singles.{Single, Has}
use Rattle.reals.specs.Rounding.{Rounds}
use Rattle.literals.specs.Literals.{scaled_decimal, nearest_decimal, is_scale, literal_pattern}

pub record LiteralLaws : Type 0 where
  -- a literal is its decimal, rounded
  pub rounds : (n : ℕ) (scale : ℤ) → Rounds (scaled_decimal n scale) (nearest_decimal n scale)
  -- it is a finite single, whose pattern stands for it
  pub single : (n : ℕ) (scale : ℤ) → n < 2 ^ 32 → is_scale scale ≡ true → Single (nearest_decimal n scale)
  pub decode : (n : ℕ) (scale : ℤ) → n < 2 ^ 32 → is_scale scale ≡ true → Ieee.of_bits binary32 (literal_pattern n scale) ≡ nearest_decimal n scale
  -- digits that make 0 are 0.0, not -0.0
  pub zero : (scale : ℤ) → Has false 0 (nearest_decimal 0 scale)
