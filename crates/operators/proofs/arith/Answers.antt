-- `operators::arith` meets its contract: integers, or reals, as the operands pair.
use mathlib.Core.Path.{sym, ◌∙◌}
use Rattle.values.specs.Integers.{int_arith}
use Rattle.values.specs.Singles.{real_arith}
use Rattle.operators.proofs.Cases.{as-reals}
use Rattle.operators.proofs.arith.Goals as goal

pub returns-in-Reals : goal.returns-in-Reals
returns-in-Reals c =
    let s = c.args in
    as-reals (int_arith s.op) (real_arith s.op) s.a s.b (sym c.paired.ensures
    ∙ c.in-Reals.is) c.arith-in-Reals.ensures
