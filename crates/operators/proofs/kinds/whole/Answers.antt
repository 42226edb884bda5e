-- `operators::kinds::whole` meets its contract: both are integers, or one is not.
use borrow.Author.Tests.{ne_eqb}
use Rattle.operators.proofs.kinds.whole.Goals as goal

pub returns-then-left-ne-INT : goal.returns-then-left-ne-INT
returns-then-left-ne-INT c = rw (ne_eqb _ 0 c.if-left-ne-INT.true)

pub returns-then-right-eq-INT : goal.returns-then-right-eq-INT
returns-then-right-eq-INT c = rw (c.if-left-ne-INT.false, c.if-right-eq-INT.true)

pub returns-else-right-eq-INT : goal.returns-else-right-eq-INT
returns-else-right-eq-INT c = rw (c.if-left-ne-INT.false, ne_eqb _ 0 c.if-right-eq-INT.false)
