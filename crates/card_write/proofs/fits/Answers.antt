-- `fits` meets its contract: the room left and the cards left make the whole.
use Rattle.card_write.proofs.Sizes.{left, room-start, no_room, room_next, room-end}
use Rattle.lines.proofs.printing.Widths.{at_most}
use native.Mathlib.Omega.{arith}
use mathlib.Core.Path.{refl}
use Rattle.card_write.proofs.fits.Goals as goal

pub loop-words-init : goal.loop-words-init
loop-words-init c = room-start _ _ _

pub returns : goal.returns
returns c = room-end c.loop-words.invariant c.loop-words-test.false

pub overflow_add-frame : goal.overflow_add-frame
overflow_add-frame c = omega (arith, c.width_of-frame.ensures, at_most 9 c.card_of-card.result.number (omega arith))

pub returns-then-left-frame : goal.returns-then-left-frame
returns-then-left-frame c =
    let card = left _ c.loop-words-test.true refl c.card_of-card.ensures.number c.card_of-card.ensures.target c.card_of-card.ensures.expr in
    no_room c.loop-words.invariant card (omega (arith, c.width_of-frame.ensures, c.if-left-frame.true))

pub returns-then-left-frame-2 : goal.returns-then-left-frame-2
returns-then-left-frame-2 c =
    let card = left _ c.loop-words-test.true refl c.card_of-card.ensures.number c.card_of-card.ensures.target c.card_of-card.ensures.expr in
    no_room c.loop-words.invariant card (omega (arith, c.width_of-frame.ensures, c.if-left-frame.false, c.if-left-frame-2.true))

pub returns-then-left-frame-3 : goal.returns-then-left-frame-3
returns-then-left-frame-3 c =
    let card = left _ c.loop-words-test.true refl c.card_of-card.ensures.number c.card_of-card.ensures.target c.card_of-card.ensures.expr in
    no_room c.loop-words.invariant card
    (omega (arith, c.width_of-frame.ensures, c.if-left-frame.false, c.if-left-frame-2.false, c.if-left-frame-3.true))

pub loop-words-preserved : goal.loop-words-preserved
loop-words-preserved c =
    let card = left _ c.loop-words-test.true refl c.card_of-card.ensures.number c.card_of-card.ensures.target c.card_of-card.ensures.expr in
    room_next c.loop-words.invariant card
    (omega (arith, c.width_of-frame.ensures, c.if-left-frame.false, c.if-left-frame-2.false, c.if-left-frame-3.false))
