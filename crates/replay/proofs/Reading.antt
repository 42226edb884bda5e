-- What a read came to. Assumes nothing.
use mathlib.Core.Path.{◌≡◌, ap}
use mathlib.Core.Bool.{Bool, false, cond}
use Prim.Native.Nat.{ℕ, ◌+◌, ◌≤◌, ◌<◌}
use native.Mathlib.Omega.{arith}
use Rattle.replay.specs.declared.Got.{Got}
use Rattle.replay.specs.declared.Got.TheVariants.{Bytes}
use Rattle.replay.specs.private.Reads.{ReadInto, some, none, broken}

pub read_some : {held size : ℕ} {r : Got} {n : ℕ} → ReadInto held size r → r ≡ Bytes n → (0 < n) × (held + n ≤ size)
read_some {held} {size} {r} {n} (some m h l) e = let f : m ≡ n = cc in (omega (arith, f, h), omega (arith, f, l))
read_some none e = let z : ◌≡◌ {A = ℕ} 0 1 = cc in absurd (omega arith)
read_some broken e = let z : ◌≡◌ {A = ℕ} 0 1 = cc in absurd (omega arith)

-- that no read has answered 0 yet counts for one
pub not_yet : {x : Bool} → x ≡ false → ◌≡◌ {A = ℕ} (cond x 0 1) 1
not_yet e = ap {B = ℕ} (λ (x : Bool). cond x 0 1) e
