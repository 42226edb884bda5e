-- `results::end_of` meets its contract.
use borrow.Author.Rules.{rules}
use Rattle.draft.specs.private.Results.{read_end}
use Rattle.draft.proofs.results.end_of.Goals as goal

pub returns-clause-value : goal.returns-clause-value
unfolding read_end
returns-clause-value c = search rules
