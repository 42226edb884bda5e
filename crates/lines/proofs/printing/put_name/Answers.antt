-- `printing::put_name` meets its contract: the letter, then at most three digits.
use native.Mathlib.Omega.{arith}
use Rattle.lines.proofs.printing.Widths.{at_most}
use Rattle.lines.proofs.printing.put_name.Goals as goal

pub put_decimal-requires : goal.put_decimal-requires
put_decimal-requires c = omega (arith, at_most 2 c.args.element c.requires.element_bound)

pub returns-clause-upper_bound : goal.returns-clause-upper_bound
returns-clause-upper_bound c = omega (arith, at_most 2 c.args.element c.requires.element_bound)
