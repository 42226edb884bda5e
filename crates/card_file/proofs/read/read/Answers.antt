-- `read::read` meets its contract: what was read so far and what the rest gives are the whole. The measure is what is left of the file.
use Rattle.card_file.proofs.read.Turns.{start, bounds, taken_at, stopped-at, long, room, small, again, finished}
use Rattle.card_laws.proofs.Reading.{card-some}
use native.Mathlib.Omega.{arith}
use mathlib.Core.Path.{sym, ◌∙◌}
use Rattle.card_file.proofs.read.read.Goals as goal

pub loop-at-init : goal.loop-at-init
loop-at-init c = start _ _ c.no_words-words.ensures.1

pub judged-requires : goal.judged-requires
judged-requires c = c.card_form.ensures

pub overflow_cast-at : goal.overflow_cast-at
overflow_cast-at c = let b = bounds c.loop-at.invariant in omega (arith, b.at_low, b.last-low)

pub returns-in-Err : goal.returns-in-Err
returns-in-Err c = c.refused_words.ensures ∙ stopped-at c.loop-at.invariant c.loop-at-test.true (sym c.in-Err.is ∙ c.judged.ensures)

pub slice_bounds-put_card-end : goal.slice_bounds-put_card-end
slice_bounds-put_card-end c = sym (long c.loop-at.invariant)

pub overflow_cast-at-in-loop-at : goal.overflow_cast-at-in-loop-at
overflow_cast-at-in-loop-at c = let b = bounds c.loop-at.invariant in omega (arith, b.at_low, b.last-low)

pub put_card-to-requires : goal.put_card-to-requires
put_card-to-requires c =
    let card = taken_at c.args.file.now c.loop-at.at c.loop-at.last c.in-Ok.f (sym c.in-Ok.is ∙ c.judged.ensures) in
    record { to_in_bounds = room c.loop-at.invariant card; small_spans = small c.loop-at.invariant card }

pub overflow_add-count : goal.overflow_add-count
overflow_add-count c = let b = bounds c.loop-at.invariant in omega (arith, b.count_low, b.last-low)

pub overflow_add-at : goal.overflow_add-at
overflow_add-at c =
    let card = taken_at c.args.file.now c.loop-at.at c.loop-at.last c.in-Ok.f (sym c.in-Ok.is ∙ c.judged.ensures) in
    let g = again c.loop-at.invariant c.loop-at-test.true card c.put_card-to.ensures in
    omega (arith, g.inside)

pub loop-at-smaller : goal.loop-at-smaller
loop-at-smaller c =
    let card = taken_at c.args.file.now c.loop-at.at c.loop-at.last c.in-Ok.f (sym c.in-Ok.is ∙ c.judged.ensures) in
    let g = again c.loop-at.invariant c.loop-at-test.true card c.put_card-to.ensures in
    omega (arith, g.inside, card-some card.c, card.end)

pub loop-at-preserved : goal.loop-at-preserved
loop-at-preserved c =
    let card = taken_at c.args.file.now c.loop-at.at c.loop-at.last c.in-Ok.f (sym c.in-Ok.is ∙ c.judged.ensures) in
    again c.loop-at.invariant c.loop-at-test.true card c.put_card-to.ensures

pub bounds-words-2 : goal.bounds-words-2
bounds-words-2 c = omega (arith, long c.loop-at.invariant)

pub returns : goal.returns
returns c = finished c.loop-at.invariant c.loop-at-test.false
