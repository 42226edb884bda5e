-- `until` meets its contract: it is the place that is found, or the end.
use Rattle.lines.proofs.Runs.{found}
use Rattle.lines.proofs.until.Goals as goal

pub returns : goal.returns
returns c = found c.args.b c.args.text.now c.unwrap_or.ensures c.place_of.ensures
