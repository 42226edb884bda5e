-- `results::bad` meets its contract.
use borrow.Author.Rules.{rules}
use Rattle.draft.proofs.results.Fields.{packed-bad}
use Rattle.draft.proofs.results.bad.Goals as goal

pub returns : goal.returns
returns c = packed-bad _ (search rules)
