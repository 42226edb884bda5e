-- `values::singles::is_finite` meets its contract: the library's test is the rule's.
use Rattle.std.proofs.Common.{◌∙◌}
use Rattle.values.proofs.singles.Finite.{finite-is}
use Rattle.values.proofs.singles.is_finite.Goals as goal

pub returns : goal.returns
returns c = c.is_finite.ensures.value ∙ finite-is c.args.x
