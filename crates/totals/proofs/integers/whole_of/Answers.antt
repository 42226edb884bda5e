-- `totals::integers::whole_of` meets its contract.
use Rattle.totals.proofs.integers.whole_of.Goals as goal

pub returns-in-Real : goal.returns-in-Real
returns-in-Real c = rw c.in-Real.is
