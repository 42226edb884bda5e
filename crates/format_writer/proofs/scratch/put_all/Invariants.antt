-- `scratch::put_all` meets its contract. The invariant: the bytes so far are written.
use mathlib.Core.Path.{◌≡◌}
use mathlib.Core.List.{List, ◌++◌}
use Prim.Native.Nat.{ℕ}
use lib.ListN.{length, take}
use Rattle.format_writer.specs.private.Scratch.{Holds, Counted}
use Rattle.format_writer.proofs.scratch.put_all.Given as goal

abbrev pub invariant-loop-b : goal.invariant-loop-b
invariant-loop-b l = record {
  long : length l.out ≡ length l.initial.out;
  counted : Counted l.end l.initial.out;
  written : (o : List ℕ) → Holds o l.initial.out l.n → Holds (o ++ take l.b-index l.bytes) l.out l.end;
}
