-- `read::read` meets its contract: what was read so far and what the rest gives are the whole. The measure is what is left of the file.
use Rattle.card_file.proofs.read.Turns.{Reading}
use lib.ListN.{length}
use Prim.Native.Nat.{◌-◌}
use Rattle.card_file.proofs.read.read.Given as goal

abbrev pub invariant-loop-at : goal.invariant-loop-at
invariant-loop-at l = Reading l.file l.words l.at l.to l.last l.count

abbrev pub decreases-loop-at : goal.decreases-loop-at
decreases-loop-at l = length l.file - l.at
