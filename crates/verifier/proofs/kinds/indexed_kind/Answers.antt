-- `verifier::kinds::indexed_kind` meets its contract: the bank's kind, where the word is 0.
use Rattle.verifier.proofs.kinds.Classes.{loads-indexed, no-indexed}
use Rattle.verifier.proofs.kinds.indexed_kind.Goals as goal

pub returns-then-word_of-eq0 : goal.returns-then-word_of-eq0
returns-then-word_of-eq0 c = loads-indexed _ c.word_of.ensures c.number_of.ensures c.if-word_of-eq0.true c.element_kind.ensures

pub returns-else-word_of-eq0 : goal.returns-else-word_of-eq0
returns-else-word_of-eq0 c = no-indexed _ c.word_of.ensures c.if-word_of-eq0.false
