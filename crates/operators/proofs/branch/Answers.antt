-- `operators::branch` meets its contract: promoted where the other branch is real.
use Rattle.operators.proofs.branch.Goals as goal

pub returns-in-Real : goal.returns-in-Real
returns-in-Real c = rw (c.in-Real.is, ← c.as_real.ensures)
