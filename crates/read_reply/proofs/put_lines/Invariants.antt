-- `put_lines` meets its contract. The loop's invariant: the lines of the numbers before stand in the buffer.
use Rattle.read_reply.proofs.Loops.{Putting}
use Rattle.read_reply.proofs.put_lines.Given as goal

abbrev pub invariant-loop-number : goal.invariant-loop-number
invariant-loop-number l = Putting l.initial.out l.list l.out l.at l.number-index
