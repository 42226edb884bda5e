-- `verifier::checked` meets its contract: at each turn, what is held is what the place is reached with.
use Prim.Native.Nat.{◌-◌}
use Rattle.verifier.proofs.Checking.{Passing}
use Rattle.verifier.proofs.checked.Given as goal

abbrev pub invariant-loop-place : goal.invariant-loop-place
invariant-loop-place l = Passing l.reals l.code l.n l.place l.kinds l.brought l.held

abbrev pub decreases-loop-place : goal.decreases-loop-place
decreases-loop-place l = l.n - l.place
