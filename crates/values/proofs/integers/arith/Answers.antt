-- `values::integers::arith` meets its contract: each operator's exact result fits 64 bits, and `exact` brings it home.
use Rattle.std.proofs.Common.{refl}
use Rattle.reals.specs.declared.ArithOp.TheVariants.{Mul, Div, Rem}
use Rattle.values.proofs.integers.Results.{arith-exact, not-zero}
use Rattle.values.proofs.integers.arith.Goals as goal

pub returns-in-Mul : goal.returns-in-Mul
returns-in-Mul c = rw c.in-Mul.is (arith-exact c.args.a c.args.b c.ranges.a c.ranges.b Mul _ refl c.exact-in-Mul.ensures)

pub returns-else-b-eq0 : goal.returns-else-b-eq0
returns-else-b-eq0 c =
    let b = c.args.b in
    let G = c.ranges.b in
    rw c.in-Div.is (arith-exact c.args.a b c.ranges.a G Div _ (not-zero b G c.if-b-eq0.false) c.exact-in-Div.ensures)

pub returns-else-b-eq0-2 : goal.returns-else-b-eq0-2
returns-else-b-eq0-2 c =
    let b = c.args.b in
    let G = c.ranges.b in
    rw c.in-Rem.is (arith-exact c.args.a b c.ranges.a G Rem _ (not-zero b G c.if-b-eq0-2.false) c.exact-in-Rem.ensures)
