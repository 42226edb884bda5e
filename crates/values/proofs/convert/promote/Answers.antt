-- `convert::promote` meets its contract: a negative integer is its size, negated.
use Rattle.std.proofs.Common.{w32}
use mir.ValLaws.{to_z-of_z}
use Rattle.values.proofs.convert.Negation.{of_negative}
use Rattle.values.proofs.convert.promote.Goals as goal

pub returns-then-z-lt0 : goal.returns-then-z-lt0
returns-then-z-lt0 c =
    let z = c.args.z in
    let read = to_z-of_z w32 z c.ranges.z in
    rw (c.nearest-size.ensures, c.unsigned_abs.ensures.value, read) (of_negative z (rw read at c.if-z-lt0.true))
