-- `results::is_done` meets its contract: it asks for the status.
use Rattle.draft.proofs.results.Fields.{means, done-test}
use Rattle.draft.proofs.results.is_done.Goals as goal

pub returns : goal.returns
returns c = done-test (means c.args.r)
