-- `fits` meets its contract: the room left and the cards left make the whole.
use Rattle.card_write.proofs.Sizes.{Room}
use Rattle.card_write.proofs.fits.Given as goal

abbrev pub invariant-loop-words : goal.invariant-loop-words
invariant-loop-words l = Room l.texts l.cards l.room l.left l.words-index
