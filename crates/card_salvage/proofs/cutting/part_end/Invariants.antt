-- `cutting::part_end` meets its contract: the byte looked at lies in the part.
use Rattle.card_salvage.proofs.cutting.Ends.{Within}
use Rattle.card_salvage.proofs.cutting.part_end.Given as goal

abbrev pub invariant-loop-last : goal.invariant-loop-last
invariant-loop-last l = Within l.file l.at l.last
