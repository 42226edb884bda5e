-- A cell's number with its top bit as the sign, at every width. Assumes nothing.
use mathlib.Core.Path.{◌≡◌}
use mathlib.Core.Bool.{true}
use Prim.Native.Nat.{ℕ, ◌-◌, ◌^◌, ◌≤◌, ◌<◌}
use native.Mathlib.Nat.{lt_of_lt_of_le}
use native.Mathlib.Omega.{arith}
use lib.Pow.{pow_mono}
use Rattle.values.specs.Integers.{in_range}
use Rattle.values.specs.Patterns.{signed_of}
use Rattle.values.proofs.Ranges.{sfits-range}
use Rattle.values.proofs.patterns.Readings.{signed-mag}

-- a cell of at most 32 bits holds an integer of 32 bits
pub signed_range : (k n : ℕ) → 0 < k → k ≤ 32 → n < 2 ^ k → in_range (signed_of k n) ≡ true
signed_range k n p h l =
    sfits-range (signed_of k n) (record { sfits = lt_of_lt_of_le (signed-mag k n p l) (pow_mono {i = k - 1} {j = 31} (omega arith)) })
