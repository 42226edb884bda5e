-- `compile_and_run` meets its contract: with reals it is the full box's.
use Rattle.operations.proofs.Full.{performs-full}
use Rattle.operations.proofs.compile_and_run.Goals as goal

pub returns : goal.returns
returns c =
    let s = c.args in
    let e = c.compile_and_run_in.ensures in
    let w = performs-full s.text.now s.code.now s.index.now s.tick s.target.now s.memory.now
    (e.value, (e.memory_after, (e.code_after, e.index_after))) in
    record { value = w.0; memory_after = w.1.0; code_after = w.1.1.0; index_after = w.1.1.1 }
