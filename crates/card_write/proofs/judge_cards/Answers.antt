-- `judge_cards` meets its contract: the cards before are good, and the rest gives the whole.
use Rattle.card_write.proofs.Sizes.{left, judging-start, judging-low, refused-at, judging-next, judging-end}
use native.Mathlib.Omega.{arith}
use mathlib.Core.Path.{refl, sym, ◌∙◌}
use Rattle.card_write.proofs.judge_cards.Goals as goal

pub loop-k-init : goal.loop-k-init
loop-k-init c = judging-start _ _

pub overflow_cast-result : goal.overflow_cast-result
overflow_cast-result c = omega (arith, judging-low c.loop-k.invariant)

pub returns-in-Err : goal.returns-in-Err
returns-in-Err c =
    let card = left _ c.loop-k-test.true refl c.card_of-card.ensures.number c.card_of-card.ensures.target c.card_of-card.ensures.expr in
    refused-at (omega arith) c.loop-k.invariant card (sym c.in-Err.is ∙ c.card_verdict.ensures)

pub overflow_cast-result-2 : goal.overflow_cast-result-2
overflow_cast-result-2 c = omega (arith, judging-low c.loop-k.invariant)

pub returns : goal.returns
returns c = judging-end c.loop-k.invariant (omega (arith, c.loop-k-test.false))

pub overflow_add-at : goal.overflow_add-at
overflow_add-at c =
    let card = left _ c.loop-k-test.true refl c.card_of-card.ensures.number c.card_of-card.ensures.target c.card_of-card.ensures.expr in
    let more = judging-next c.loop-k.invariant card (sym c.in_default.is ∙ c.card_verdict.ensures) refl in
    omega (arith, judging-low more, c.width_of-width.ensures)

pub overflow_add-at-in-loop-k : goal.overflow_add-at-in-loop-k
overflow_add-at-in-loop-k c =
    let card = left _ c.loop-k-test.true refl c.card_of-card.ensures.number c.card_of-card.ensures.target c.card_of-card.ensures.expr in
    let more = judging-next c.loop-k.invariant card (sym c.in_default.is ∙ c.card_verdict.ensures) refl in
    omega (arith, judging-low more, c.width_of-width.ensures)

pub overflow_add-at-in-loop-k-2 : goal.overflow_add-at-in-loop-k-2
overflow_add-at-in-loop-k-2 c =
    let card = left _ c.loop-k-test.true refl c.card_of-card.ensures.number c.card_of-card.ensures.target c.card_of-card.ensures.expr in
    let more = judging-next c.loop-k.invariant card (sym c.in_default.is ∙ c.card_verdict.ensures) refl in
    omega (arith, judging-low more, c.width_of-width.ensures)

pub overflow_add-at-in-loop-k-3 : goal.overflow_add-at-in-loop-k-3
overflow_add-at-in-loop-k-3 c =
    let card = left _ c.loop-k-test.true refl c.card_of-card.ensures.number c.card_of-card.ensures.target c.card_of-card.ensures.expr in
    let more = judging-next c.loop-k.invariant card (sym c.in_default.is ∙ c.card_verdict.ensures) refl in
    omega (arith, judging-low more, c.width_of-width.ensures)

pub loop-k-preserved : goal.loop-k-preserved
loop-k-preserved c =
    let card = left _ c.loop-k-test.true refl c.card_of-card.ensures.number c.card_of-card.ensures.target c.card_of-card.ensures.expr in
    judging-next c.loop-k.invariant card (sym c.in_default.is ∙ c.card_verdict.ensures) (omega (arith, c.width_of-width.ensures))
