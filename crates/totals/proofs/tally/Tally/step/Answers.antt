-- `totals::tally::Tally::step` meets its contract.
use Rattle.totals.proofs.tally.Tally.step.Goals as goal

pub returns : goal.returns
returns c = rw (c.choose.ensures, c.choose-2.ensures)
