-- `totals::total` meets its contract: an arm for each total.
use Rattle.totals.proofs.Runs.{sums, averages, chooses}
use Rattle.totals.proofs.total.Goals as goal

pub returns-in-Sum : goal.returns-in-Sum
returns-in-Sum c =
    let cells = c.args.cells in
    sums c.args.image.now cells.bank cells.first cells.count _ c.in-Sum.is c.run.ensures

pub returns-in-Average : goal.returns-in-Average
returns-in-Average c =
    let cells = c.args.cells in
    averages c.args.image.now cells.bank cells.first cells.count _ c.in-Average.is c.run-in-Average.ensures

pub returns-in-Choice : goal.returns-in-Choice
returns-in-Choice c =
    let cells = c.args.cells in
    chooses c.args.image.now cells.bank cells.first cells.count _ _ c.in-Choice.is c.run-in-Choice.ensures
