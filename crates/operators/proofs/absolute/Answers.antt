-- `operators::absolute` meets its contract: an integer's exact value, or a real without its sign.
use mathlib.Core.Path.{ap}
use Rattle.values.specs.declared.Value.TheVariants.{Real}
use Rattle.values.specs.declared.Outcome.TheVariants.{Done}
use Rattle.operators.proofs.absolute.Goals as goal

pub returns-in-Real : goal.returns-in-Real
returns-in-Real c = rw c.in-Real.is (ap (λ x. Done (Real x)) c.absolute.ensures)
