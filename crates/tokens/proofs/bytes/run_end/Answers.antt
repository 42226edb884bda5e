-- `bytes::run_end` meets its contract: a run from a position on.
use native.Mathlib.Omega.{arith}
use Rattle.tokens.proofs.Runs.{passed-from}
use Rattle.tokens.proofs.bytes.run_end.Goals as goal

pub overflow_add-result : goal.overflow_add-result
overflow_add-result g c =
    let h = passed-from g.class c.args.text.now c.args.at _ (omega arith) c.passing.ensures in
    omega (arith, h.1)

pub returns : goal.returns
returns g c = passed-from g.class c.args.text.now c.args.at _ (omega arith) c.passing.ensures
