-- `totals::neighbours::is_greater` meets its contract.
use mathlib.Core.Path.{ap}
use lib.Ieee.{lt}
use mir.Syntax.{w32}
use mir.ValLaws.{to_z-of_z}
use Rattle.totals.proofs.neighbours.is_greater.Goals as goal

pub returns : goal.returns
returns c =
    ap (lt c.args.x) (rw (to_z-of_z w32 c.args.z c.ranges.z) at c.promote.ensures)
