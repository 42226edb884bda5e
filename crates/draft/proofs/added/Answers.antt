-- `draft::added` meets its contract.
use Rattle.draft.proofs.added.Goals as goal

pub returns : goal.returns
returns c = record { result_value = cc; draft_after = cc }
