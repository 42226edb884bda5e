-- `put_lines` meets its contract. The loop's invariant: what is put, and the lines of what is left, are the whole.
use Rattle.code_listing.proofs.Lines.{Putting}
use Rattle.code_listing.proofs.put_lines.Given as goal

abbrev pub invariant-loop-place : goal.invariant-loop-place
invariant-loop-place l = Putting l.initial.out l.code l.n l.out l.at l.place
