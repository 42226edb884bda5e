-- `values::singles::absolute` meets its contract: the library's sets the sign.
use Rattle.std.proofs.Common.{◌∙◌}
use Rattle.values.proofs.singles.Finite.{absolute-is}
use Rattle.values.proofs.singles.absolute.Goals as goal

pub returns : goal.returns
returns c = c.abs.ensures.value ∙ absolute-is c.args.x
