-- `operators::unary_in` meets its contract: the full operators, or an integer by those of integers alone.
use Rattle.operators.specs.Reals.{real_unary}
use Rattle.operators.proofs.Admitted.{of-real}
use Rattle.operators.proofs.unary_in.Goals as goal

pub returns-then-reals : goal.returns-then-reals
returns-then-reals c = rw c.if-reals.true c.unary.ensures

pub returns-in-Real : goal.returns-in-Real
returns-in-Real c = rw (c.if-reals.false, c.in-Real.is) (of-real (real_unary c.args.op) _)
