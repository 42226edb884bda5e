-- `totals::tally::matching_promoted` meets its contract. The loop's invariant: the count or sum so far is an integer of 32 bits.
--
use mathlib.Core.Path.{◌≡◌}
use mathlib.Core.Bool.{true}
use Rattle.values.specs.declared.Kind.TheVariants as K
use Rattle.values.specs.declared.Value.TheVariants.{Real}
use Rattle.values.specs.Integers.{in_range}
use Rattle.memory.specs.Cells.{read_rule}
use Rattle.totals.specs.private.Steps.{match_step, run_over}
use Rattle.totals.proofs.integers.Whole.{Held}
use Rattle.totals.proofs.tally.matching_promoted.Given as goal

abbrev pub invariant-loop-k : goal.invariant-loop-k
invariant-loop-k l =
    (in_range l.a ≡ true)
    × Held (match_step l.counts l.o (Real l.x)) (read_rule l.image l.cells.bank)
    (run_over (match_step l.counts l.o (Real l.x)) K.Int (read_rule l.image l.cells.bank) l.cells.first l.cells.count)
    l.cells.first l.cells.count l.a l.k
