-- `check::sum_of` meets its contract: what was summed and what is left make the check.
use Rattle.card_file.proofs.check.Sums.{Summed}
use Rattle.card_file.proofs.check.sum_of.Given as goal

abbrev pub invariant-loop-b : goal.invariant-loop-b
invariant-loop-b l = Summed l.lines l.sum l.position l.b-index
