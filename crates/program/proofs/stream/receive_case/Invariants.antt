-- `stream::receive_case` meets its contract. The loop's invariant: what is kept is what the input so far leaves.
use Rattle.program.proofs.stream.Receiving.{Receiving}
use Rattle.program.proofs.stream.receive_case.Given as goal

abbrev pub invariant-loop : goal.invariant-loop
invariant-loop g l = Receiving l.progress
