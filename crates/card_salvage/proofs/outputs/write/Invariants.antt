-- `outputs::write` meets its contract: what stands in each buffer, and what is left for it, make the whole. The measure is how many bytes are left.
use Rattle.card_salvage.proofs.outputs.Writing.{Writing}
use lib.ListN.{length}
use Prim.Native.Nat.{◌-◌}
use Rattle.card_salvage.proofs.outputs.write.Given as goal

abbrev pub invariant-loop-at : goal.invariant-loop-at
invariant-loop-at l = Writing l.file l.initial.kept l.initial.named l.kept l.named l.kept_at l.named_at l.at l.last

abbrev pub decreases-loop-at : goal.decreases-loop-at
decreases-loop-at l = length l.file - l.at
