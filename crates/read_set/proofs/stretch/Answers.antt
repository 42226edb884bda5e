-- `stretch` meets its contract: the range is good, or there is none.
use mathlib.Core.Path.{sym, ◌∙◌}
use native.Mathlib.Omega.{arith}
use Rattle.read_set.proofs.Intervals.{bank-end}
use Rattle.read_set.proofs.stretch.Goals as goal

pub overflow_add-result : goal.overflow_add-result
overflow_add-result c = omega (arith, bank-end c.args.bank, c.first_number.ensures)

pub returns-then-is_good : goal.returns-then-is_good
returns-then-is_good c = rw (sym c.is_good.ensures ∙ c.if-is_good.true, c.first_number.ensures)

pub returns-else-is_good : goal.returns-else-is_good
returns-else-is_good c = rw (sym c.is_good.ensures ∙ c.if-is_good.false) c.nothing.ensures
