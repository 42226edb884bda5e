-- `verifier::kinds::load_kind` meets its contract.
use Rattle.verifier.proofs.kinds.Classes.{loads}
use Rattle.verifier.proofs.kinds.load_kind.Goals as goal

pub returns : goal.returns
returns c = loads _ c.word_of.ensures c.number_of.ensures c.element_kind.ensures
