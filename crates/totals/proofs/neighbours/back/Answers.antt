-- `totals::neighbours::back` meets its contract.
use native.Mathlib.Omega.{arith}
use lib.IntN.{pos, ◌-ℤ◌}
use mir.Syntax.{w32}
use mir.ValLaws.{to_z-of_z}
use Rattle.values.proofs.integers.Sizes.{sub-size}
use Rattle.totals.proofs.neighbours.Enclosing.{before-fits}
use Rattle.totals.proofs.neighbours.back.Goals as goal

pub overflow_sub-result : goal.overflow_sub-result
overflow_sub-result c = rw (to_z-of_z w32 c.args.z c.ranges.z) (before-fits c.args.z c.requires)

pub returns-then-one : goal.returns-then-one
returns-then-one c =
    rw (to_z-of_z w32 c.args.z c.ranges.z, to_z-of_z w32 (c.args.z -ℤ pos 1) (before-fits c.args.z c.requires))
    (omega (arith, c.requires, sub-size c.args.z (pos 1)))

pub returns-else-one : goal.returns-else-one
returns-else-one c = rw (to_z-of_z w32 c.args.z c.ranges.z) (omega (arith, c.requires))
