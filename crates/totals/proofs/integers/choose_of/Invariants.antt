-- `totals::integers::choose_of` meets its contract. The loop's invariant: what is held is what the cells so far come to.
use Rattle.values.specs.declared.Kind.TheVariants as K
use Rattle.memory.specs.Cells.{read_rule}
use Rattle.totals.specs.declared.Step.TheVariants as S
use Rattle.totals.specs.private.Steps.{run_over}
use Rattle.totals.proofs.integers.Whole.{Held}
use Rattle.totals.proofs.integers.choose_of.Given as goal

abbrev pub invariant-loop-k : goal.invariant-loop-k
invariant-loop-k l =
    Held (S.Choose l.o) (read_rule l.image l.cells.bank) (run_over (S.Choose l.o) K.Int (read_rule l.image l.cells.bank) l.cells.first l.cells.count) l.cells.first l.cells.count
    l.a l.k
