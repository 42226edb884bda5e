-- `totals::tally::mean` meets its contract.
use native.Mathlib.Omega.{arith}
use mir.Syntax.{w32}
use mir.ValLaws.{to_z_pos}
use Rattle.totals.proofs.tally.mean.Goals as goal

pub returns : goal.returns
returns c = rw (to_z_pos w32 c.args.count (omega arith)) at c.arith.ensures
