-- `verifier::kinds::tick_kind` meets its contract: an integer, where the word is 0.
use Rattle.verifier.proofs.kinds.Classes.{ticks, no-tick}
use Rattle.verifier.proofs.kinds.tick_kind.Goals as goal

pub returns-then-word_of-eq0 : goal.returns-then-word_of-eq0
returns-then-word_of-eq0 c = ticks _ c.word_of.ensures c.if-word_of-eq0.true

pub returns-else-word_of-eq0 : goal.returns-else-word_of-eq0
returns-else-word_of-eq0 c = no-tick _ c.word_of.ensures c.if-word_of-eq0.false
