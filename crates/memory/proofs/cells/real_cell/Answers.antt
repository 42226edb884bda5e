-- `memory::cells::real_cell` meets its contract: a finite pattern is no NaN.
use mathlib.Core.Path.{sym, ◌∙◌}
use Rattle.values.proofs.patterns.Exponents.{no_nan}
use Rattle.memory.proofs.cells.real_cell.Goals as goal

pub float_from_bits-result : goal.float_from_bits-result
float_from_bits-result c = no_nan c.args.n (sym c.is_finite_single.ensures ∙ c.if-is_finite_single.true)
