-- `results::next_of` meets its contract.
use borrow.Author.Rules.{rules}
use Rattle.draft.specs.private.Results.{read_next}
use Rattle.draft.proofs.results.next_of.Goals as goal

pub returns-clause-value : goal.returns-clause-value
unfolding read_next
returns-clause-value c = search rules
