-- How long blank buffers are, and the first bytes of a buffer, for the programs that print them too. Assumes nothing.
use mathlib.Core.Path.{◌≡◌, sym, ap, ◌∙◌}
use mathlib.Core.List.{List}
use Prim.Native.Nat.{ℕ, ◌≤◌}
use native.Mathlib.Omega.{arith}
use lib.ListN.{length, take, length-replicate}
use lib.Seq.{length-take-le, length-sets}
use Rattle.lines.specs.private.Steps.{Puts}
use Rattle.program.specs.Cases.{zeros}

pub zeros-length : (n : ℕ) → length (zeros n) ≡ n
unfolding zeros
zeros-length n = length-replicate n 0

pub prefix-length : (l : List ℕ) (k : ℕ) → k ≤ length l → k ≡ length (take k l)
prefix-length l k h = sym (length-take-le k l h)

-- of a text that was put at the front
pub put-prefix : {l m : List ℕ} {n : ℕ} {s : List ℕ} → Puts l 0 m n s → n ≤ length l → n ≡ length (take n m)
put-prefix {l} {m} {n} {s} p h = prefix-length m n (omega (arith, ap length p.bytes ∙ length-sets l 0 s))
