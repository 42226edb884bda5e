-- `run_card` meets its contract.
use native.Mathlib.Omega.{arith}
use Rattle.log_lines.proofs.Steps.{lacking, located, part_cut, unknown, ran, cell-inside}
use Rattle.log_lines.proofs.run_card.Goals as goal

pub returns-in_default : goal.returns-in_default
returns-in_default c = unknown c.args.k c.args.memory.now c.args.tick
    (lacking c.find_card.ensures c.in_default.is) c.put_unknown.ensures.puts c.put_unknown.ensures.upper_bound

pub overflow_add-target : goal.overflow_add-target
overflow_add-target c = omega (arith, (located c.find_card.ensures c.in-Some.is).high)

pub offset_bounds-read-p : goal.offset_bounds-read-p
offset_bounds-read-p c = omega (arith, (located c.find_card.ensures c.in-Some.is).high)

pub bounds-read-p : goal.bounds-read-p
bounds-read-p c = omega (arith, (located c.find_card.ensures c.in-Some.is).high)

pub overflow_add-target_end : goal.overflow_add-target_end
overflow_add-target_end c = omega (arith, (located c.find_card.ensures c.in-Some.is).high)

pub offset_bounds-read-p-2 : goal.offset_bounds-read-p-2
offset_bounds-read-p-2 c = omega (arith, (located c.find_card.ensures c.in-Some.is).high)

pub bounds-read-p-2 : goal.bounds-read-p-2
bounds-read-p-2 c = omega (arith, (located c.find_card.ensures c.in-Some.is).high)

pub overflow_add-target_end-2 : goal.overflow_add-target_end-2
overflow_add-target_end-2 c = omega (arith, (located c.find_card.ensures c.in-Some.is).target-part.inside)

pub overflow_add-expr : goal.overflow_add-expr
overflow_add-expr c = omega (arith, (located c.find_card.ensures c.in-Some.is).high)

pub offset_bounds-read-p-3 : goal.offset_bounds-read-p-3
offset_bounds-read-p-3 c = omega (arith, (located c.find_card.ensures c.in-Some.is).high)

pub bounds-read-p-3 : goal.bounds-read-p-3
bounds-read-p-3 c = omega (arith, (located c.find_card.ensures c.in-Some.is).high)

pub overflow_add-expr_end : goal.overflow_add-expr_end
overflow_add-expr_end c = omega (arith, (located c.find_card.ensures c.in-Some.is).high)

pub offset_bounds-read-p-4 : goal.offset_bounds-read-p-4
offset_bounds-read-p-4 c = omega (arith, (located c.find_card.ensures c.in-Some.is).high)

pub bounds-read-p-4 : goal.bounds-read-p-4
bounds-read-p-4 c = omega (arith, (located c.find_card.ensures c.in-Some.is).high)

pub overflow_add-expr_end-2 : goal.overflow_add-expr_end-2
overflow_add-expr_end-2 c = omega (
  arith,
  (located c.find_card.ensures c.in-Some.is).expr-part.inside,
)

pub slice_bounds-compile_and_run-end : goal.slice_bounds-compile_and_run-end
slice_bounds-compile_and_run-end c = omega (
  arith,
  (located c.find_card.ensures c.in-Some.is).target-part.inside,
)

pub slice_bounds-compile_and_run-end-2 : goal.slice_bounds-compile_and_run-end-2
slice_bounds-compile_and_run-end-2 c = omega (
  arith,
  (located c.find_card.ensures c.in-Some.is).expr-part.inside,
)

pub put_reply-requires-clause-cell_inside : goal.put_reply-requires-clause-cell_inside
put_reply-requires-clause-cell_inside c =
    let its-located = located c.find_card.ensures c.in-Some.is in
    cell-inside c.args.tick c.args.memory.now (part_cut its-located.target-part) (part_cut its-located.expr-part)
    c.blank_code-code.ensures.1 c.blank_code-index.ensures.1 c.compile_and_run-answer.ensures.value

pub returns : goal.returns
returns c =
    let its-located = located c.find_card.ensures c.in-Some.is in
    ran c.args.k c.args.memory.now c.args.tick its-located.is (part_cut its-located.target-part) (part_cut its-located.expr-part)
    c.blank_code-code.ensures.1 c.blank_code-index.ensures.1 c.compile_and_run-answer.ensures.value
    c.compile_and_run-answer.ensures.memory_after c.put_reply.ensures.puts c.put_reply.ensures.upper_bound
