-- `printing::width_of` meets its contract: a power of ten says how many digits there are.
use mathlib.Core.Path.{sym}
use native.Mathlib.Omega.{arith}
use Rattle.lines.proofs.printing.Widths.{by-power, one}
use Rattle.lines.proofs.printing.width_of.Goals as goal

pub returns-in-Some : goal.returns-in-Some
returns-in-Some c = sym (by-power c.in-Some.tens c.args.n c.in-Some.ensures.power_le c.in-Some.ensures.next_power_gt)

pub returns-in-None : goal.returns-in-None
returns-in-None c = sym (one c.args.n (omega (arith, c.in-None.ensures.none)))
