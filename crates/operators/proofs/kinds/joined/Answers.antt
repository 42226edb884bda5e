-- `operators::kinds::joined` meets its contract: the right kind, or a real on the left.
use borrow.Author.Tests.{ne_eqb}
use Rattle.operators.proofs.kinds.joined.Goals as goal

pub returns-then-left-eq-INT : goal.returns-then-left-eq-INT
returns-then-left-eq-INT c = rw c.if-left-eq-INT.true c.kind.ensures

pub returns-else-left-eq-INT : goal.returns-else-left-eq-INT
returns-else-left-eq-INT c = rw (ne_eqb _ 0 c.if-left-eq-INT.false)
