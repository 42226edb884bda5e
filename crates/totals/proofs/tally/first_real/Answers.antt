-- `totals::tally::first_real` meets its contract: the cell as it was read.
use mathlib.Core.Path.{sym, ◌∙◌}
use lib.Ieee.{of_bits}
use lib.Ieee.{of_bits}
use Rattle.totals.proofs.tally.first_real.Goals as goal

pub returns-in-Done : goal.returns-in-Done
returns-in-Done c = rw (sym c.read.ensures ∙ c.in-Done.is) c.as_real.ensures

pub returns-in-Stopped : goal.returns-in-Stopped
unfolding of_bits
returns-in-Stopped c = rw (sym c.read.ensures ∙ c.in-Stopped.is)

pub returns-in-WrongKind : goal.returns-in-WrongKind
unfolding of_bits
returns-in-WrongKind c = rw (sym c.read.ensures ∙ c.in-WrongKind.is)
