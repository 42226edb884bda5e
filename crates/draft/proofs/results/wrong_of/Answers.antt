-- `results::wrong_of` meets its contract.
use borrow.Author.Rules.{rules}
use Rattle.draft.specs.private.Results.{read_wrong}
use Rattle.draft.proofs.results.wrong_of.Goals as goal

pub returns-clause-result_value : goal.returns-clause-result_value
unfolding read_wrong
returns-clause-result_value c = search rules
