-- `put_cards` meets its contract: the cards before stand in the buffer.
use Rattle.card_write.proofs.Putting.{Putting}
use Rattle.card_write.proofs.put_cards.Given as goal

abbrev pub invariant-loop-words : goal.invariant-loop-words
invariant-loop-words l = Putting l.texts l.cards l.initial.out l.out l.at l.words-index
