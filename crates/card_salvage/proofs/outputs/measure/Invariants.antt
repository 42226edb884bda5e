-- `outputs::measure` meets its contract: what is left of each room, and what is left for it, make the whole. The measure is how many bytes are left.
use Rattle.card_salvage.proofs.outputs.Rooms.{Rooms}
use lib.ListN.{length}
use Prim.Native.Nat.{◌-◌}
use Rattle.card_salvage.proofs.outputs.measure.Given as goal

abbrev pub invariant-loop-at : goal.invariant-loop-at
invariant-loop-at l = Rooms l.file l.room l.other l.kept_left l.named_left l.at l.last

abbrev pub decreases-loop-at : goal.decreases-loop-at
decreases-loop-at l = length l.file - l.at
