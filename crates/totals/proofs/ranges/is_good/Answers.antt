-- `totals::ranges::is_good` meets its contract.
use Rattle.totals.proofs.ranges.is_good.Goals as goal

pub returns : goal.returns
returns c = rw (c.is_within.ensures, c.layout_of.ensures)
