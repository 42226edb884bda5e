-- `read_more` meets its contract.
use native.Mathlib.Omega.{arith}
use Rattle.replay.specs.private.Reads.{some, none, broken}
use Rattle.replay.proofs.read_more.Goals as goal

pub returns-in_default : goal.returns-in_default
returns-in_default g c = broken

pub returns-then-n-eq0 : goal.returns-then-n-eq0
returns-then-n-eq0 g c = none

pub returns : goal.returns
returns g c = some c.in-Ok.n (omega (arith, c.if-n-eq0.false)) (omega (arith, c.in-Ok.ensures.bound, c.requires))
