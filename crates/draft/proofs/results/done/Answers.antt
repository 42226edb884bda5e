-- `results::done` meets its contract: the fields of the word are those that it was made of.
use Rattle.draft.proofs.results.Fields.{packed-is}
use borrow.Author.Rules.{rules}
use Rattle.draft.proofs.results.done.Goals as goal

pub returns : goal.returns
returns c = packed-is _ _ _ _ (search rules) (search rules) (search rules)
