-- `operators::cut_below` meets its contract: the two arms are the rule's two cases.
use Rattle.operators.proofs.cut_below.Goals as goal

pub returns-in-None : goal.returns-in-None
returns-in-None c = rw c.in-None.is
