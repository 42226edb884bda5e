-- How many multiplications a whole power takes (paper 02, Ask 3): "at most twelve multiplications a power, proved by a count that each
-- one raises".
use Rattle.std.specs.Prelude.{◌≡◌, ℕ, zero, suc, ◌≤◌, cond, ℤ, pos, ◌*ℤ◌}
use Rattle.values.specs.declared.Fault.TheVariants.{OutOfRange}
use Rattle.values.specs.declared.Outcome.{Outcome}
use Rattle.values.specs.declared.Outcome.TheVariants.{Stopped}
use Rattle.values.specs.Integers.{exact_int, exponent, int_power}

-- z is made of a by k multiplications: 1 and a take none, and each further one is what was made times itself or times a
pub data Chain (a : ℤ) : ℕ → ℤ → Type 0 where
  one : Chain a zero (pos 1)
  base : Chain a zero a
  square : {k : ℕ} {z : ℤ} → Chain a k z → Chain a (suc k) (z *ℤ z)
  factor : {k : ℕ} {z : ℤ} → Chain a k z → Chain a (suc k) (z *ℤ a)

-- o is a to the power n and the outcome of a product that k multiplications made, at most twelve
pub record PowerCount (a n : ℤ) (o : Outcome) (k : ℕ) : Type 0 where
  pub power : o ≡ int_power a n
  pub product : ℤ
  pub chain : Chain a k product
  pub exact : o ≡ cond (exponent n) (exact_int product) (Stopped OutOfRange)
  pub few : k ≤ 12
