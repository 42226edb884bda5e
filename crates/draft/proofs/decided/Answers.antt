-- `draft::decided` meets its contract.
use Rattle.draft.proofs.decided.Goals as goal

pub returns : goal.returns
returns c = cc
