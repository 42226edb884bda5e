-- `check_in` meets its contract: 0 or 15 by the verdict.
use Rattle.operations.proofs.Runs.{checked}
use Rattle.operations.proofs.check_in.Goals as goal

pub returns-in-Some : goal.returns-in-Some
returns-in-Some c =
    let s = c in
    checked s.args.reals s.args.code.now s.args.n c.check_in.ensures c.in-Some.is

pub returns-in-None : goal.returns-in-None
returns-in-None c =
    let s = c in
    checked s.args.reals s.args.code.now s.args.n c.check_in.ensures c.in-None.is
