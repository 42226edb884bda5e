-- `outputs::measure` meets its contract: what is left of each room, and what is left for it, make the whole. The measure is how many bytes are left.
use Rattle.card_salvage.proofs.outputs.Taken.{taken}
use Rattle.card_salvage.proofs.outputs.Rooms.{start, no_room, no-room-named, next, end}
use native.Mathlib.Omega.{arith}
use Rattle.card_salvage.proofs.outputs.measure.Goals as goal

pub loop-at-init : goal.loop-at-init
loop-at-init c = start _ _ _

pub slice_bounds-part_answer-count : goal.slice_bounds-part_answer-count
slice_bounds-part_answer-count c = omega (arith, c.part_end-end.ensures.order, c.part_end-end.ensures.inside)

pub slice_bounds-part_answer-start : goal.slice_bounds-part_answer-start
slice_bounds-part_answer-start c = omega (arith, c.part_end-end.ensures.order, c.part_end-end.ensures.inside)

pub slice_bounds-part_answer-end : goal.slice_bounds-part_answer-end
slice_bounds-part_answer-end c = omega (arith, c.part_end-end.ensures.order, c.part_end-end.ensures.inside)

pub overflow_sub-end : goal.overflow_sub-end
overflow_sub-end c = omega (arith, c.part_end-end.ensures)

pub overflow_sub-end-in-loop-at : goal.overflow_sub-end-in-loop-at
overflow_sub-end-in-loop-at c = omega (arith, c.part_end-end.ensures)

pub returns-then-kept_left-kept : goal.returns-then-kept_left-kept
returns-then-kept_left-kept c = no_room c.loop-at.invariant
    (taken c.loop-at.last c.part_end-end.ensures
    c.part_answer-answer.ensures) c.kept_size-kept.ensures c.if-kept_left-kept.true

pub returns-then-named_left-named : goal.returns-then-named_left-named
returns-then-named_left-named c = no-room-named c.loop-at.invariant (taken c.loop-at.last c.part_end-end.ensures c.part_answer-answer.ensures)
    c.named_size-named.ensures c.if-named_left-named.true

pub loop-at-smaller : goal.loop-at-smaller
loop-at-smaller c = omega (
  arith,
  c.part_end-end.ensures.order,
  c.loop-at-test.true,
)

pub loop-at-preserved : goal.loop-at-preserved
loop-at-preserved c = next c.loop-at.invariant (taken c.loop-at.last c.part_end-end.ensures c.part_answer-answer.ensures) c.kept_size-kept.ensures
    c.named_size-named.ensures c.if-kept_left-kept.false c.if-named_left-named.false c.unwrap_or-last.ensures

pub returns : goal.returns
returns c = end c.loop-at.invariant c.loop-at-test.false
