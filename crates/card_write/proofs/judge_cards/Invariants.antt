-- `judge_cards` meets its contract: the cards before are good, and the rest gives the whole.
use Rattle.card_write.proofs.Sizes.{Judging}
use Rattle.card_write.proofs.judge_cards.Given as goal

abbrev pub invariant-loop-k : goal.invariant-loop-k
invariant-loop-k l = Judging l.texts l.cards l.at l.last l.k
