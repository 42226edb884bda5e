-- `verifier::kinds::since_kind` meets its contract: an integer for an integer, where the word is 0.
use Rattle.verifier.proofs.kinds.Classes.{applies-since, no-since}
use Rattle.verifier.proofs.kinds.since_kind.Goals as goal

pub returns-then-word_of-eq0 : goal.returns-then-word_of-eq0
returns-then-word_of-eq0 c = applies-since _ c.word_of.ensures c.if-word_of-eq0.true _ c.of_integer.ensures

pub returns-else-word_of-eq0 : goal.returns-else-word_of-eq0
returns-else-word_of-eq0 c = no-since _ c.word_of.ensures c.if-word_of-eq0.false _
