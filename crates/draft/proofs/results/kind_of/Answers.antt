-- `results::kind_of` meets its contract.
use borrow.Author.Rules.{rules}
use Rattle.draft.specs.private.Results.{read_kind}
use Rattle.draft.proofs.results.kind_of.Goals as goal

pub returns-clause-result_value : goal.returns-clause-result_value
unfolding read_kind
returns-clause-result_value c = search rules
