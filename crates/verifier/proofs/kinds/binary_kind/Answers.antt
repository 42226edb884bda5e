-- `verifier::kinds::binary_kind` meets its contract: the operator's rule, where the word is 0.
use Rattle.verifier.proofs.kinds.Classes.{applies-binary, no-binary}
use Rattle.verifier.proofs.kinds.binary_kind.Goals as goal

pub returns-then-word_of-eq0 : goal.returns-then-word_of-eq0
returns-then-word_of-eq0 c = applies-binary _ c.word_of.ensures c.number_of.ensures c.if-word_of-eq0.true _ _ c.binary_kind.ensures

pub returns-else-word_of-eq0 : goal.returns-else-word_of-eq0
returns-else-word_of-eq0 c = no-binary _ c.word_of.ensures c.if-word_of-eq0.false _ _
