-- `convert::unit_of` meets its contract: 1 shifted by the digits that a single does not keep.
use Rattle.values.proofs.convert.Digits.{few-zeros}
use Rattle.values.proofs.convert.unit_of.Goals as goal

pub overflow_sub-dropped : goal.overflow_sub-dropped
overflow_sub-dropped c = few-zeros c.args.m c.requires c.ranges.m.fits
