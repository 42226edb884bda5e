-- `machine::outcome_step` meets its contract: each arm is the clause of `outcome_step` for its outcome.
use Rattle.machine.proofs.outcome_step.Goals as goal

pub returns-in-Real : goal.returns-in-Real
returns-in-Real c = rw (c.in-Done.is, c.in-Real.is) c.push_step-in-Real.ensures

pub returns-in-Stopped : goal.returns-in-Stopped
returns-in-Stopped c = rw c.in-Stopped.is c.stop_step.ensures
