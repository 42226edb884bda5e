-- `operators::kinds::binary_kind` meets its contract: the operators by their numbers, one class after the other.
use mathlib.Core.Path.{◌∙◌}
use borrow.Author.Tests.{le-ltb}
use Rattle.operators.proofs.Arms.{first}
use Rattle.operators.proofs.Typed.{sums, shifts, comparisons, bitwise, choices}
use Rattle.operators.proofs.kinds.binary_kind.Goals as goal

pub returns-then-op-eq-POWER : goal.returns-then-op-eq-POWER
returns-then-op-eq-POWER c = rw c.if-op-eq-POWER.true c.raised.ensures

pub returns-then-op-lt-SHIFTS : goal.returns-then-op-lt-SHIFTS
returns-then-op-lt-SHIFTS c = c.joined.ensures ∙ sums (first c.if-op-eq-POWER.false) c.if-op-lt-SHIFTS.true _ _

pub returns-then-op-lt-COMPARISONS : goal.returns-then-op-lt-COMPARISONS
returns-then-op-lt-COMPARISONS c = c.whole.ensures ∙ shifts c.if-op-lt-SHIFTS.false c.if-op-lt-COMPARISONS.true _ _

pub returns-then-op-lt-BITWISE : goal.returns-then-op-lt-BITWISE
returns-then-op-lt-BITWISE c = comparisons c.if-op-lt-COMPARISONS.false c.if-op-lt-BITWISE.true _ _

pub returns-then-op-lt-CHOICES : goal.returns-then-op-lt-CHOICES
returns-then-op-lt-CHOICES c = c.whole-then-op-lt-CHOICES.ensures ∙ bitwise c.if-op-lt-BITWISE.false c.if-op-lt-CHOICES.true _ _

pub returns-then-op-lt-END : goal.returns-then-op-lt-END
returns-then-op-lt-END c = c.joined-then-op-lt-END.ensures ∙ choices c.if-op-lt-CHOICES.false c.if-op-lt-END.true _ _

pub returns-else-op-lt-END : goal.returns-else-op-lt-END
returns-else-op-lt-END c = rw (le-ltb c.args.op 20 c.if-op-lt-END.false)
