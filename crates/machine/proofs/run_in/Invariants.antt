-- `run_in` meets its contract: at each turn what is left to run, from the values held, gives what the whole run gives.
use mathlib.Core.Path.{◌≡◌}
use Prim.Native.Nat.{◌+◌, ◌*◌, ◌-◌, ◌/◌, ◌≤◌}
use lib.ListN.{length}
use Rattle.memory.specs.Environment.{memory_at}
use Rattle.machine.specs.Machine.{max_height, max_cells}
use Rattle.machine.proofs.Held.{held}
use Rattle.machine.proofs.Rest.{Stands}
use Rattle.machine.proofs.run_in.Given as goal

abbrev pub invariant-loop-place : goal.invariant-loop-place
invariant-loop-place l =
    (length l.stack ≡ max_height) × (l.h ≤ max_height) × (l.count ≤ (1 + max_cells) * l.place) × (l.there ≤ l.n) × (l.there ≤ length l.code / 8)
    × (l.n ≤ 2048) × (l.place ≤ 4096) × Stands l.reals (memory_at l.tick l.image) l.code l.n l.place (held l.h l.stack) l.count

abbrev pub decreases-loop-place : goal.decreases-loop-place
decreases-loop-place l = l.there - l.place
