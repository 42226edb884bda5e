-- `results::refusal_of` meets its contract: it asks for the status.
use Rattle.draft.proofs.results.Fields.{means, low-refusal, high-refusal}
use Rattle.draft.proofs.results.refusal_of.Goals as goal

pub returns-then-r-lt2 : goal.returns-then-r-lt2
returns-then-r-lt2 c = low-refusal (means c.args.r) c.if-r-lt2.true

pub returns-else-r-lt2 : goal.returns-else-r-lt2
returns-else-r-lt2 c = high-refusal (means c.args.r) c.if-r-lt2.false
