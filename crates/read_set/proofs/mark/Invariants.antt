-- `mark` meets its contract. The invariant: what is left of the code, besides what is reached, is what the whole code reads.
use mathlib.Core.Path.{◌≡◌}
use Prim.Native.Nat.{◌/◌, ◌≤◌}
use lib.ListN.{length}
use Rattle.read_set.specs.private.Reaches.{lesser}
use Rattle.read_set.proofs.Marking.{Left}
use Rattle.read_set.proofs.mark.Given as goal

abbrev pub invariant-loop-place : goal.invariant-loop-place
invariant-loop-place l =
    (l.place-end ≤ l.n) × (l.place-end ≡ lesser l.n (length l.code / 8)) × Left l.code l.n l.place l.initial.reaches l.reaches
