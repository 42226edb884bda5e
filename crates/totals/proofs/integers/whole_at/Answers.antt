-- `totals::integers::whole_at` meets its contract: the cell as it was read.
use mathlib.Core.Path.{sym, ◌∙◌}
use Rattle.totals.proofs.integers.whole_at.Goals as goal

pub read_present-requires : goal.read_present-requires
read_present-requires c = c.requires

pub returns-in-Stopped : goal.returns-in-Stopped
returns-in-Stopped c = rw (sym c.read_present.ensures ∙ c.in-Stopped.is)

pub returns-in-WrongKind : goal.returns-in-WrongKind
returns-in-WrongKind c = rw (sym c.read_present.ensures ∙ c.in-WrongKind.is)
