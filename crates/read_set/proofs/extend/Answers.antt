-- `extend` meets its contract by its test.
use borrow.Author.Tests.{lt-ltb, le-ltb}
use Rattle.read_set.proofs.extend.Goals as goal

pub returns-then-reaches-first : goal.returns-then-reaches-first
returns-then-reaches-first c = rw (lt-ltb _ _ c.if-reaches-first.true)

pub returns-else-reaches-first : goal.returns-else-reaches-first
returns-else-reaches-first c = rw (le-ltb _ _ c.if-reaches-first.false)
