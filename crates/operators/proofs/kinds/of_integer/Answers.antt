-- `operators::kinds::of_integer` meets its contract: it is an integer, or not.
use borrow.Author.Tests.{ne_eqb}
use Rattle.operators.proofs.kinds.of_integer.Goals as goal

pub returns-then-k-eq-INT : goal.returns-then-k-eq-INT
returns-then-k-eq-INT c = rw c.if-k-eq-INT.true

pub returns-else-k-eq-INT : goal.returns-else-k-eq-INT
returns-else-k-eq-INT c = rw (ne_eqb _ 0 c.if-k-eq-INT.false)
