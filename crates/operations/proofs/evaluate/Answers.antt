-- `evaluate` meets its contract: with reals it is the full box's.
use Rattle.operations.proofs.Full.{evaluates-full}
use Rattle.operations.proofs.evaluate.Goals as goal

pub returns : goal.returns
returns c =
    let s = c in
    evaluates-full s.args.tick s.args.code.now s.args.n s.args.memory.now c.evaluate_in.ensures
