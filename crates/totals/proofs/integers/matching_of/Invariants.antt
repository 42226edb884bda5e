-- `totals::integers::matching_of` meets its contract. The loop's invariant: the count or sum so far is an integer of 32 bits.
use mathlib.Core.Path.{◌≡◌}
use mathlib.Core.Bool.{true, false}
use Prim.Native.Nat.{◌*◌, ◌≤◌}
use lib.IntN.{nat_abs}
use Rattle.values.specs.declared.Kind.TheVariants as K
use Rattle.values.specs.declared.Value.{Value}
use Rattle.values.specs.declared.CompareOp.{CompareOp}
use Rattle.values.specs.Integers.{in_range}
use Rattle.memory.specs.Cells.{read_rule}
use Rattle.totals.specs.private.Steps.{match_step, run_over}
use Rattle.totals.specs.private.Integers.{Bounded}
use Rattle.totals.proofs.integers.Whole.{Held}
use Rattle.totals.proofs.integers.matching_of.Given as goal

abbrev pub invariant-loop-k : goal.invariant-loop-k
invariant-loop-k l =
    (in_range l.a ≡ true)
    × (l.wide ≡ false → nat_abs l.a ≤ l.k * 65536)
    × ((o : CompareOp) (v : Value) → Bounded l.bounds.least l.bounds.greatest l.bounds.outside o v
    → Held (match_step l.counts o v) (read_rule l.image l.cells.bank) (run_over (match_step l.counts o v) K.Int (read_rule l.image l.cells.bank) l.cells.first l.cells.count)
    l.cells.first l.cells.count l.a l.k)
