-- `listing` meets its contract. The invariant: what is left to list, behind what is listed, is the whole list.
use mathlib.Core.Path.{◌≡◌}
use Prim.Native.Nat.{◌≤◌}
use lib.ListN.{length}
use Rattle.read_set.specs.Cells.{cell_count}
use Rattle.read_set.specs.private.Reaches.{reached_to}
use Rattle.read_set.proofs.Numbering.{Listing}
use Rattle.read_set.proofs.listing.Given as goal

abbrev pub invariant-loop-number : goal.invariant-loop-number
invariant-loop-number l = (l.found ≤ l.number) × (length l.reaches ≡ cell_count)
    × (l.end ≡ reached_to l.reaches l.number) × Listing l.reaches l.initial.list l.list l.number l.found
