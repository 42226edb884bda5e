-- `through_last_end` meets its contract.
use mathlib.Core.Path.{◌≡◌, ◌∙◌}
use Prim.Native.Nat.{◌+◌, ◌-◌}
use native.Mathlib.Omega.{arith}
use Rattle.log_window.proofs.Ends.{start, found, further, none}
use Rattle.log_window.proofs.through_last_end.Goals as goal

pub loop-k-init : goal.loop-k-init
loop-k-init c = start _

pub returns-then-bytes-k-eq10 : goal.returns-then-bytes-k-eq10
returns-then-bytes-k-eq10 c =
    let e : c.loop-k.k - 1 + 1 ≡ c.loop-k.k = omega (arith, c.loop-k-test.true) in
    e ∙ found c.loop-k.invariant (omega (arith, c.loop-k-test.true)) c.if-bytes-k-eq10.true

pub loop-k-preserved : goal.loop-k-preserved
loop-k-preserved c = further c.loop-k.invariant (omega (arith, c.loop-k-test.true)) c.if-bytes-k-eq10.false

pub returns : goal.returns
returns c = none c.loop-k.invariant (omega (arith, c.loop-k-test.false))
