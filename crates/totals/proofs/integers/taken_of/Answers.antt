-- `totals::integers::taken_of` meets its contract.
use mir.Syntax.{w32}
use mir.ValLaws.{to_z-of_z}
use Rattle.totals.proofs.integers.taken_of.Goals as goal

pub returns-then-counts : goal.returns-then-counts
returns-then-counts c = rw c.if-counts.true

pub returns-else-counts : goal.returns-else-counts
returns-else-counts c = rw c.if-counts.false (to_z-of_z w32 c.args.z c.ranges.z)
