-- `operators::negate` meets its contract: an integer's exact value, or the sign of a real turned.
use Rattle.operators.proofs.negate.Goals as goal

pub returns-in-Real : goal.returns-in-Real
returns-in-Real c = rw c.in-Real.is
