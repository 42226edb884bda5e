-- `operators::from_cut` meets its contract: an integer, or out of range.
use Rattle.operators.proofs.from_cut.Goals as goal

pub returns-in-None : goal.returns-in-None
returns-in-None c = rw c.in-None.is
