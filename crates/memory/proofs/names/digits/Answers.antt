-- `memory::names::digits` meets its contract. The invariant: the digits before i make the value, cut at the limit.
use mathlib.Core.Path.{sym, ◌∙◌}
use Rattle.memory.proofs.names.Decimals.{next}
use Rattle.memory.proofs.names.digits.Goals as goal

pub loop-i-preserved : goal.loop-i-preserved
loop-i-preserved c =
    rw (c.min-value.ensures, c.from.ensures) (next c.loop-i.invariant c.loop-i-test.true (sym c.is_digit.ensures ∙ c.if-not-is_digit.false))
