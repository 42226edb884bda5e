-- `check::sum_of` meets its contract: what was summed and what is left make the check.
use Rattle.card_file.proofs.check.Sums.{next}
use Rattle.card_file.proofs.check.sum_of.Goals as goal

pub loop-b-preserved : goal.loop-b-preserved
loop-b-preserved c = next c.loop-b.invariant c.loop-b-test.true c.from.result c.from.ensures
