-- `totals::neighbours::is_less` meets its contract.
use mathlib.Core.Path.{ap}
use lib.Ieee.{Float, lt}
use mir.Syntax.{w32}
use mir.ValLaws.{to_z-of_z}
use Rattle.totals.proofs.neighbours.is_less.Goals as goal

pub returns : goal.returns
returns c =
    ap (λ (p : Float). lt p c.args.x) (rw (to_z-of_z w32 c.args.z c.ranges.z) at c.promote.ensures)
