-- `printing::put_all` meets its contract. The loop's invariant: the bytes from k on are left to put.
use Prim.Native.Nat.{◌+◌}
use lib.ListN.{drop}
use lib.Seq.{sets}
use Rattle.lines.proofs.Stores.{Left}
use Rattle.lines.proofs.printing.put_all.Given as goal

abbrev pub invariant-loop-k : goal.invariant-loop-k
invariant-loop-k l = Left (sets l.initial.out l.at l.text) l.out (l.at + l.k) (drop l.k l.text)
