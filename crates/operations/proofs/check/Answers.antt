-- `check` meets its contract: with reals it is the full box's.
use mathlib.Core.Path.{◌∙◌}
use Rattle.operations.proofs.Full.{full-check}
use Rattle.operations.proofs.check.Goals as goal

pub returns : goal.returns
returns c =
    let s = c in
    c.check_in.ensures ∙ full-check s.args.code.now s.args.n
