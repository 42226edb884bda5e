-- `outputs::write` meets its contract: what stands in each buffer, and what is left for it, make the whole. The measure is how many bytes are left.
use Rattle.card_salvage.proofs.outputs.Taken.{taken}
use Rattle.card_salvage.proofs.outputs.Writing.{start, room, named-room, next, kept_whole, named-whole}
use mathlib.Core.Path.{refl}
use native.Mathlib.Omega.{arith}
use Rattle.card_salvage.proofs.outputs.write.Goals as goal

pub loop-at-init : goal.loop-at-init
loop-at-init c = start _ _ _

pub slice_bounds-part_answer-count : goal.slice_bounds-part_answer-count
slice_bounds-part_answer-count c = omega (arith, c.part_end-end.ensures.order, c.part_end-end.ensures.inside)

pub slice_bounds-part_answer-start : goal.slice_bounds-part_answer-start
slice_bounds-part_answer-start c = omega (arith, c.part_end-end.ensures.order, c.part_end-end.ensures.inside)

pub slice_bounds-part_answer-end : goal.slice_bounds-part_answer-end
slice_bounds-part_answer-end c = omega (arith, c.part_end-end.ensures.order, c.part_end-end.ensures.inside)

pub slice_bounds-put_kept-count : goal.slice_bounds-put_kept-count
slice_bounds-put_kept-count c = omega (arith, c.part_end-end.ensures)

pub slice_bounds-put_kept-start : goal.slice_bounds-put_kept-start
slice_bounds-put_kept-start c = omega (arith, c.part_end-end.ensures)

pub slice_bounds-put_kept-end : goal.slice_bounds-put_kept-end
slice_bounds-put_kept-end c = omega (arith, c.part_end-end.ensures)

pub put_kept-kept_at-requires : goal.put_kept-kept_at-requires
put_kept-kept_at-requires c = room c.loop-at.invariant
    (taken c.loop-at.last c.part_end-end.ensures
    c.part_answer-answer.ensures) c.requires.file_in_bounds

pub overflow_sub-end : goal.overflow_sub-end
overflow_sub-end c = omega (arith, c.part_end-end.ensures)

pub put_name-named_at-requires : goal.put_name-named_at-requires
put_name-named_at-requires c =
    named-room c.loop-at.invariant (taken c.loop-at.last c.part_end-end.ensures
    c.part_answer-answer.ensures) c.requires.file_in_bounds_2

pub loop-at-smaller : goal.loop-at-smaller
loop-at-smaller c = omega (
  arith,
  c.part_end-end.ensures.order,
  c.loop-at-test.true,
)

pub loop-at-preserved : goal.loop-at-preserved
loop-at-preserved c = next c.loop-at.invariant
    (taken c.loop-at.last
    c.part_end-end.ensures
    c.part_answer-answer.ensures)
    c.put_kept-kept_at.ensures c.put_name-named_at.ensures c.unwrap_or-last.ensures

pub returns : goal.returns
returns c =
    record {
      answer_value = refl;
      puts = kept_whole c.loop-at.invariant c.loop-at-test.false;
      puts_2 = named-whole c.loop-at.invariant c.loop-at-test.false;
    }
