-- What was put at the front of a buffer is as long as it says. Assumes nothing.
use mathlib.Core.Path.{◌≡◌, sym, ap, ◌∙◌}
use mathlib.Core.List.{List}
use Prim.Native.Nat.{ℕ, ◌≤◌}
use native.Mathlib.Omega.{arith}
use lib.ListN.{length, take}
use lib.Seq.{length-take-le, length-sets}
use Rattle.lines.specs.private.Steps.{Puts}

pub prefix-length : {l m : List ℕ} {n : ℕ} {s : List ℕ} → Puts l 0 m n s → n ≤ length l → n ≡ length (take n m)
prefix-length {l} {m} {n} {s} p h = sym (length-take-le n m (omega (arith, ap length p.bytes ∙ length-sets l 0 s)))
