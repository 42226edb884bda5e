-- `run_list::run_list` meets its contract: the formulas before are run, with their answers in the first places.
use mathlib.Core.Path.{ap}
use native.Mathlib.Omega.{arith}
use Prim.Native.Nat.{◌*◌}
use Rattle.std.proofs.lemmas.List.{take_rest}
use Rattle.operations.specs.declared.Report.{Report}
use Rattle.list_laws.specs.Running.{Buffers}
use Rattle.run_list.proofs.Turns.{start, next, gives, over, end}
use Rattle.run_list.proofs.run_list.Goals as goal

pub returns-then-count-gt-MOST_LISTED : goal.returns-then-count-gt-MOST_LISTED
returns-then-count-gt-MOST_LISTED c =
    let s = c.args in
    let found : Buffers = record { memory = s.memory.now; code = s.code.now; index = s.index_code.now } in
    let w = gives s.tick s.places.now s.texts.now found
    (over s.tick s.places.now s.texts.now found (omega (arith, c.if-count-gt-MOST_LISTED.true))) in
    record { answer_value = w.0; answers_value = w.1.0; memory_after = w.1.1.0; code_after = w.1.1.1.0; index_code_after = w.1.1.1.1 }

pub loop-k-init : goal.loop-k-init
loop-k-init c = start _ _ _ _

pub loop-k-preserved : goal.loop-k-preserved
loop-k-preserved c =
    let e = c.compile_and_run-answer.ensures in
    let words = take_rest c.args.places.now (4 * c.loop-k.k) in
    next _ _ _ _ c.loop-k-test.true c.if-count-gt-MOST_LISTED.false c.loop-k.invariant (rw words at c.cut-target.ensures) (rw words at c.cut-text.ensures)
    (e.value, (e.memory_after, (e.code_after, e.index_after))) (ap (λ (x : Report). x.answer) c.reported.ensures)

pub returns : goal.returns
returns c =
    let s = c.args in
    let found : Buffers = record { memory = s.memory.now; code = s.code.now; index = s.index_code.now } in
    let w = gives s.tick s.places.now s.texts.now found
    (end s.tick s.places.now s.texts.now found c.if-count-gt-MOST_LISTED.false c.loop-k-test.false c.loop-k.invariant) in
    record { answer_value = w.0; answers_value = w.1.0; memory_after = w.1.1.0; code_after = w.1.1.1.0; index_code_after = w.1.1.1.1 }
