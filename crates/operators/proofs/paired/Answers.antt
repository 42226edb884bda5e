-- `operators::paired` meets its contract: the one place where an integer is promoted beside a real.
use mathlib.Core.Path.{ap}
use Rattle.operators.specs.declared.Pair.TheVariants.{Reals}
use Rattle.operators.proofs.paired.Goals as goal

pub returns-in-Real : goal.returns-in-Real
returns-in-Real c = rw c.in-Real.is (ap (Reals c.in-Real.x) c.as_real.ensures)
