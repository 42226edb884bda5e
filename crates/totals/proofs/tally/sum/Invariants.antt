-- `totals::tally::sum` meets its contract. The loop's invariant: the tally has taken every cell so far.
use Rattle.values.specs.declared.Kind.TheVariants as K
use Rattle.memory.specs.declared.Bank.TheVariants.{R}
use Rattle.memory.specs.Cells.{read_rule}
use Rattle.totals.specs.private.Steps.{sum_step, run_over}
use Rattle.totals.proofs.tally.Reals.{Tallied}
use Rattle.totals.proofs.tally.sum.Given as goal

abbrev pub invariant-loop-k : goal.invariant-loop-k
invariant-loop-k l =
    Tallied (sum_step l.averaged) (read_rule l.image R) (run_over (sum_step l.averaged) K.Real (read_rule l.image R) l.first l.count)
    l.first l.count l.t l.k
