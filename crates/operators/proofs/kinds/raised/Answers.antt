-- `operators::kinds::raised` meets its contract: the exponent decides, the kind is the base's.
use mathlib.Core.Path.{ap}
use Prim.Native.Nat.{◌+◌, ◌<◌}
use native.Mathlib.Omega.{arith}
use borrow.Author.Tests.{ne_eqb}
use Rattle.operators.specs.Kinds.{number_kind}
use Rattle.operators.proofs.Typed.{kind-small}
use Rattle.operators.proofs.kinds.raised.Goals as goal

pub overflow_add-result : goal.overflow_add-result
overflow_add-result c =
    let h : c.kind-else-exponent-eq-INT.result < 2 = rw c.kind-else-exponent-eq-INT.ensures (kind-small (number_kind c.args.base)) in
    omega (arith, h)

pub returns-then-exponent-eq-INT : goal.returns-then-exponent-eq-INT
returns-then-exponent-eq-INT c = rw c.if-exponent-eq-INT.true c.kind.ensures

pub returns-else-exponent-eq-INT : goal.returns-else-exponent-eq-INT
returns-else-exponent-eq-INT c = rw (ne_eqb _ 0 c.if-exponent-eq-INT.false) (ap (λ n. 2 + n) c.kind-else-exponent-eq-INT.ensures)
