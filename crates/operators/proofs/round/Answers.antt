-- `operators::round` meets its contract: an integer as it is, a real rounded.
use Rattle.operators.proofs.round.Goals as goal

pub returns-in-Int : goal.returns-in-Int
returns-in-Int c = rw c.in-Int.is

pub returns-in-Real : goal.returns-in-Real
returns-in-Real c = rw (c.in-Real.is, ← c.round.ensures) c.from_cut.ensures
