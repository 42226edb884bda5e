-- `run` meets its contract: with reals it is the full box's.
use Rattle.operations.proofs.Full.{runs-full}
use Rattle.operations.proofs.run.Goals as goal

pub returns : goal.returns
returns c =
    let s = c.args in
    let e = c.run_in.ensures in
    let w = runs-full s.tick s.target.now s.index.now s.memory.now s.k s.code.now s.n (e.value, e.memory_after) in
    record { value = w.0; memory_after = w.1 }
