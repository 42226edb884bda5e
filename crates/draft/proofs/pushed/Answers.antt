-- `draft::pushed` meets its contract.
use Rattle.draft.proofs.pushed.Goals as goal

pub returns : goal.returns
returns c = record { result_value = cc; draft_after = cc }
