-- `operators::truth` meets its contract: an integer's truth, or a comparison with zero.
use Rattle.values.proofs.singles.Finite.{zero_pattern}
use Rattle.operators.proofs.truth.Goals as goal

pub returns-in-Real : goal.returns-in-Real
returns-in-Real c = rw (c.in-Real.is, zero_pattern)
