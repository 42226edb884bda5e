-- `verifier::skipped` meets its contract: at each turn, the way so far has no jump and only known instructions.
use Rattle.verifier.specs.private.Shapes.{brought_to}
use Rattle.verifier.specs.private.Pass.{Skipping}
use Rattle.verifier.proofs.skipped.Given as goal

abbrev pub invariant-loop-place : goal.invariant-loop-place
invariant-loop-place l = Skipping l.reals l.code l.brought.end (brought_to l.brought) l.from l.place
