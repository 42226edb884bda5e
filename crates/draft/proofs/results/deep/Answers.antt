-- `results::deep` meets its contract.
use borrow.Author.Rules.{rules}
use Rattle.draft.proofs.results.Fields.{packed-deep}
use Rattle.draft.proofs.results.deep.Goals as goal

pub returns : goal.returns
returns c = packed-deep _ (search rules)
