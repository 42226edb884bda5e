-- `totals::tally::average_of` meets its contract. The loop's invariant: the tally has taken every cell so far.
use Rattle.values.specs.declared.Kind.TheVariants as K
use Rattle.memory.specs.Cells.{read_rule}
use Rattle.totals.specs.declared.Step.TheVariants as S
use Rattle.totals.specs.private.Steps.{run_over}
use Rattle.totals.proofs.tally.Reals.{Tallied}
use Rattle.totals.proofs.tally.average_of.Given as goal

abbrev pub invariant-loop-k : goal.invariant-loop-k
invariant-loop-k l =
    Tallied S.Average (read_rule l.image l.cells.bank) (run_over S.Average K.Real (read_rule l.image l.cells.bank) l.cells.first l.cells.count) l.cells.first l.cells.count l.t l.k
