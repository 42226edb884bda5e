-- `printing::put_decimal` meets its contract: as many digits as the number has.
use native.Mathlib.Omega.{arith}
use Rattle.lines.proofs.printing.Digits.{length_digits}
use Rattle.lines.proofs.printing.put_decimal.Goals as goal

pub returns-clause-value : goal.returns-clause-value
returns-clause-value c =
    omega (arith, c.spell.ensures.end, length_digits 10 c.width_of.result c.args.n, c.width_of.ensures)
