-- A number that is none of a match's arms 0, 1, 2 and so on lies beyond them.
use mathlib.Core.Logic.{◌≢◌}
use Prim.Native.Nat.{ℕ, zero, suc, ◌≤◌}
use native.Mathlib.Omega.{arith}

pub first : {n : ℕ} → n ≢ 0 → 1 ≤ n
first e = omega (arith, e)

pub past : {n : ℕ} (k : ℕ) → k ≤ n → n ≢ k → suc k ≤ n
past k h e = omega (arith, e)

-- none of the k arms from 0 on, as a match's default knows it
abbrev pub NoArm : ℕ → ℕ → Type 0
NoArm n zero = Unit {0}
NoArm n (suc k) = NoArm n k × (n ≢ k)

pub past-arms : {n : ℕ} (k : ℕ) → NoArm n k → k ≤ n
past-arms zero r = omega arith
past-arms (suc k) r = past k (past-arms k r.0) r.1
