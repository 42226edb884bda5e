-- `index_passes` meets its contract: the check of index code, where there is any.
use borrow.Author.Rules.{rules}
use Rattle.delivery.proofs.index_passes.Goals as goal

pub returns-in-By : goal.returns-in-By
returns-in-By c = rw c.in-By.is c.accepts_in.ensures
