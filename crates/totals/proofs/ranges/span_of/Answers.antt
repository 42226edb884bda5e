-- `totals::ranges::span_of` meets its contract.
use mathlib.Core.Path.{sym, ◌∙◌}
use Rattle.totals.proofs.ranges.span_of.Goals as goal

pub returns-then-is_within : goal.returns-then-is_within
returns-then-is_within c = rw (sym c.is_within.ensures ∙ c.if-is_within.true)

pub returns-else-is_within : goal.returns-else-is_within
returns-else-is_within c = rw (sym c.is_within.ensures ∙ c.if-is_within.false)
