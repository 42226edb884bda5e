-- `totals::matching` meets its contract: an arm for each family.
use Rattle.totals.proofs.Runs.{counts-matches, sums-matches}
use Rattle.totals.proofs.matching.Goals as goal

pub returns-in-Count : goal.returns-in-Count
returns-in-Count c =
    let cells = c.args.cells in
    counts-matches c.args.image.now cells.bank cells.first cells.count _ _ _ c.in-Count.is c.run.ensures

pub returns-in-Sum : goal.returns-in-Sum
returns-in-Sum c =
    let cells = c.args.cells in
    sums-matches c.args.image.now cells.bank cells.first cells.count _ _ _ c.in-Sum.is c.run-in-Sum.ensures
