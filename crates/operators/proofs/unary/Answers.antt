-- `operators::unary` meets its contract: each operator is one call.
use Rattle.reals.specs.declared.ArithOp.TheVariants.{Rem}
use Rattle.values.specs.Integers.{int_arith}
use Rattle.values.specs.Singles.{real_arith}
use Rattle.values.proofs.singles.Finite.{one-pattern}
use Rattle.operators.proofs.Cases.{beside-real}
use Rattle.operators.proofs.unary.Goals as goal

pub returns-in-Not : goal.returns-in-Not
returns-in-Not c = rw (c.in-Not.is, ← c.truth.ensures, ← c.from_bool.ensures)

pub returns-in-ToReal : goal.returns-in-ToReal
returns-in-ToReal c = rw (c.in-ToReal.is, ← c.as_real.ensures)

pub returns-in-Frac : goal.returns-in-Frac
returns-in-Frac c =
    let v = c.args.v in
    rw (c.in-Frac.is, ← one-pattern) (beside-real (int_arith Rem) (real_arith Rem) v _ c.arith.ensures)
