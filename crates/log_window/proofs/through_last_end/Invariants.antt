-- `through_last_end` meets its contract. The loop's invariant: no line end stands behind k.
use Rattle.log_window.proofs.Ends.{Before}
use Rattle.log_window.proofs.through_last_end.Given as goal

abbrev pub invariant-loop-k : goal.invariant-loop-k
invariant-loop-k l = Before l.bytes l.k
