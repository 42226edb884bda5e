-- `values::patterns::is_finite_single` meets its contract: a test of the exponent's field.
use Rattle.values.proofs.patterns.Exponents.{test-is}
use Rattle.values.proofs.patterns.is_finite_single.Goals as goal

pub returns : goal.returns
returns c = test-is c.args.n
