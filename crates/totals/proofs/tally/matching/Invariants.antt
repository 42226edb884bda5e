-- `totals::tally::matching` meets its contract. The loop's invariant: the tally has taken the cells so far that match.
use Rattle.values.specs.declared.Kind.TheVariants as K
use Rattle.memory.specs.declared.Bank.TheVariants.{R}
use Rattle.memory.specs.Cells.{read_rule}
use Rattle.totals.specs.private.Steps.{match_step, run_over}
use Rattle.totals.proofs.tally.Reals.{Tallied}
use Rattle.totals.proofs.tally.matching.Given as goal

abbrev pub invariant-loop-k : goal.invariant-loop-k
invariant-loop-k l =
    Tallied (match_step l.counts l.o l.v) (read_rule l.image R) (run_over (match_step l.counts l.o l.v) K.Real (read_rule l.image R) l.first l.count)
    l.first l.count l.t l.k
