-- `totals::integers::sum_of` meets its contract. The loop's invariant: the sum so far is an integer of 32 bits.
use mathlib.Core.Path.{◌≡◌}
use mathlib.Core.Bool.{true, false}
use Prim.Native.Nat.{◌*◌, ◌≤◌}
use lib.IntN.{nat_abs}
use Rattle.values.specs.declared.Kind.TheVariants as K
use Rattle.values.specs.Integers.{in_range}
use Rattle.memory.specs.Cells.{read_rule}
use Rattle.totals.specs.declared.Step.TheVariants as S
use Rattle.totals.specs.private.Steps.{run_over}
use Rattle.totals.proofs.integers.Whole.{Held}
use Rattle.totals.proofs.integers.sum_of.Given as goal

abbrev pub invariant-loop-k : goal.invariant-loop-k
invariant-loop-k l =
    (in_range l.a ≡ true)
    × (l.wide ≡ false → nat_abs l.a ≤ l.k * 65536)
    × Held S.Add (read_rule l.image l.cells.bank) (run_over S.Add K.Int (read_rule l.image l.cells.bank) l.cells.first l.cells.count) l.cells.first l.cells.count l.a l.k
