-- `images::copy_rest` meets its contract. The invariant: k bytes are copied.
use Rattle.images.proofs.Filling.{Copied}
use Rattle.images.proofs.copy_rest.Given as goal

abbrev pub invariant-loop-k : goal.invariant-loop-k
invariant-loop-k l = Copied l.from l.at l.initial.to l.place l.k l.to
