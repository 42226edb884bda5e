-- `walk::signs` meets its contract. The invariant: the operators up to i are written.
use mathlib.Core.Path.{◌≡◌}
use Prim.Native.Nat.{◌≤◌}
use lib.ListN.{length}
use Rattle.formatter.specs.private.Walk.{Position, WritesSigns}
use Rattle.formatter.proofs.walk.signs.Given as goal

abbrev pub invariant-loop-i : goal.invariant-loop-i
invariant-loop-i l = (l.at ≤ l.i) × (l.i ≤ l.first) × (length l.out ≡ length l.initial.out) × Position l.text l.table l.i
    × WritesSigns l.text l.table l.at l.i l.initial.out l.out l.n l.end
