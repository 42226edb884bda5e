-- `put_cards` meets its contract: the cards before stand in the buffer.
use Rattle.card_write.proofs.Putting.{start, room, next, end, long}
use Rattle.card_write.proofs.Sizes.{left}
use native.Mathlib.Omega.{arith}
use mathlib.Core.Path.{refl}
use Rattle.card_write.proofs.put_cards.Goals as goal

pub loop-words-init : goal.loop-words-init
loop-words-init c = start _ _ _

pub put_card-at-requires : goal.put_card-at-requires
put_card-at-requires c =
    let card = left _ c.loop-words-test.true refl c.card_of-card.ensures.number c.card_of-card.ensures.target c.card_of-card.ensures.expr in
    omega (arith, room c.loop-words.invariant card c.requires, long c.loop-words.invariant)

pub loop-words-preserved : goal.loop-words-preserved
loop-words-preserved c =
    let card = left _ c.loop-words-test.true refl c.card_of-card.ensures.number c.card_of-card.ensures.target c.card_of-card.ensures.expr in
    next c.loop-words.invariant card c.put_card-at.ensures

pub returns : goal.returns
returns c = end c.loop-words.invariant c.loop-words-test.false
