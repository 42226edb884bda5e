-- `results::past` meets its contract: no field but the position changes.
use borrow.Author.Rules.{rules}
use Rattle.draft.specs.private.Results.{read_next}
use Rattle.draft.proofs.results.Fields.{further-is}
use Rattle.draft.proofs.results.past.Goals as goal

pub overflow_add-result : goal.overflow_add-result
unfolding read_next
overflow_add-result c = search rules

pub returns : goal.returns
returns c = further-is c.args.r c.requires
