-- `totals::average` meets its contract: R by its own loop, the others promoted.
use mathlib.Core.Path.{◌∙◌}
use Rattle.totals.proofs.Runs.{any-kind}
use Rattle.totals.proofs.average.Goals as goal

pub returns-in-Some : goal.returns-in-Some
returns-in-Some c =
    let same = c.in-Some.ensures in
    (rw (same.0, same.1, same.2) at c.average.ensures) ∙ any-kind c.args.cells.bank _ _ _
