-- `totals::tally::choose` meets its contract. The loop's invariant: the tally has taken every cell so far.
use Rattle.values.specs.declared.Kind.TheVariants as K
use Rattle.memory.specs.declared.Bank.TheVariants.{R}
use Rattle.memory.specs.Cells.{read_rule}
use Rattle.totals.specs.declared.Step.TheVariants as S
use Rattle.totals.specs.private.Steps.{run_over}
use Rattle.totals.proofs.tally.Reals.{Tallied}
use Rattle.totals.proofs.tally.choose.Given as goal

abbrev pub invariant-loop-k : goal.invariant-loop-k
invariant-loop-k l =
    Tallied (S.Choose l.o) (read_rule l.image R) (run_over (S.Choose l.o) K.Real (read_rule l.image R) l.first l.count) l.first l.count l.t l.k
