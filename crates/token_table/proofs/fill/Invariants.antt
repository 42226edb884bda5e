-- `token_table::fill` meets its contract. The invariant: what fills the rest, behind the words that are written, fills the whole.
use Prim.Native.Nat.{◌-◌}
use lib.ListN.{length}
use Rattle.token_table.proofs.Filling.{Filling}
use Rattle.token_table.proofs.fill.Given as goal

abbrev pub invariant-loop-at : goal.invariant-loop-at
invariant-loop-at l = Filling l.text l.initial.table l.table l.at l.n

abbrev pub decreases-loop-at : goal.decreases-loop-at
decreases-loop-at l = length l.text - l.at
