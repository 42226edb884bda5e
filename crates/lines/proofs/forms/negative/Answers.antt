-- `forms::negative` meets its contract: a number that is not 0, or none.
use mathlib.Core.Path.{sym, ◌∙◌}
use native.Mathlib.Omega.{arith}
use Rattle.lines.proofs.forms.Integers.{below, no_zero, number, none}
use Rattle.lines.proofs.forms.negative.Goals as goal

pub returns-then-n-eq0 : goal.returns-then-n-eq0
returns-then-n-eq0 c = no_zero c.args.half c.args.digits.now _ c.in_ok-n.ensures c.if-n-eq0.true

pub overflow_sub-result : goal.overflow_sub-result
overflow_sub-result c = omega (arith, below c.args.half c.args.digits.now _ c.in_ok-n.ensures)

pub returns : goal.returns
returns c = number c.args.half c.args.digits.now _ c.in_ok-n.ensures c.if-n-eq0.false

pub returns-in_err-n : goal.returns-in_err-n
returns-in_err-n c = c.from_residual.ensures ∙ none c.args.half c.args.digits.now c.in_err-n.ensures
