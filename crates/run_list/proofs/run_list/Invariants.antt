-- The invariant of `run_list::run_list`: the formulas before are run, with their answers in the first places.
use Rattle.run_list.proofs.Turns.{Ran}
use Rattle.run_list.proofs.run_list.Given as goal

abbrev pub invariant-loop-k : goal.invariant-loop-k
invariant-loop-k l =
    Ran l.tick l.places l.texts (record { memory = l.initial.memory; code = l.initial.code; index = l.initial.index_code }) l.k l.answers
    (record { memory = l.memory; code = l.code; index = l.index_code })
