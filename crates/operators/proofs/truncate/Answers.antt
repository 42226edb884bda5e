-- `operators::truncate` meets its contract: an integer as it is, a real cut.
use Rattle.operators.proofs.truncate.Goals as goal

pub returns-in-Int : goal.returns-in-Int
returns-in-Int c = rw c.in-Int.is

pub returns-in-Real : goal.returns-in-Real
returns-in-Real c = rw (c.in-Real.is, ← c.truncate.ensures) c.from_cut.ensures
