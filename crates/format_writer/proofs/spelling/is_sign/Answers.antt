-- `spelling::is_sign` meets its contract.
use borrow.Author.Tests.{ne_eqb}
use Rattle.format_writer.proofs.spelling.is_sign.Goals as goal

pub returns-then-b-eq43 : goal.returns-then-b-eq43
returns-then-b-eq43 c = rw c.if-b-eq43.true

pub returns-else-b-eq43 : goal.returns-else-b-eq43
returns-else-b-eq43 c = rw (ne_eqb _ _ c.if-b-eq43.false)
