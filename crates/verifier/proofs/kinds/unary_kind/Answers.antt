-- `verifier::kinds::unary_kind` meets its contract: the operator's rule, where the word is 0.
use Rattle.verifier.proofs.kinds.Classes.{applies-unary, no-unary}
use Rattle.verifier.proofs.kinds.unary_kind.Goals as goal

pub returns-then-word_of-eq0 : goal.returns-then-word_of-eq0
returns-then-word_of-eq0 c = applies-unary _ c.word_of.ensures c.number_of.ensures c.if-word_of-eq0.true _ c.unary_kind.ensures

pub returns-else-word_of-eq0 : goal.returns-else-word_of-eq0
returns-else-word_of-eq0 c = no-unary _ c.word_of.ensures c.if-word_of-eq0.false _
