-- `total` meets its contract: the operator of the number, if there is one, over the range of the word.
use mathlib.Core.Path.{sym, ◌∙◌}
use Rattle.machine.proofs.Visits.{over}
use Rattle.machine.proofs.total.Goals as goal

pub returns-in-Some-range_of : goal.returns-in-Some-range_of
returns-in-Some-range_of c = λ t.
    let is = sym (rw c.number_of.ensures at c.total_of.ensures) ∙ c.in-Some.is in
    rw (is, ← c.word_of.ensures) (c.total_in.ensures t ∙ over c.in-Some-range_of.cells c.in-Some-range_of.ensures _)

pub returns-in-None : goal.returns-in-None
returns-in-None c = λ t.
    let is = sym (rw c.number_of.ensures at c.total_of.ensures) ∙ c.in-Some.is in
    rw (is, ← c.word_of.ensures) (c.no_visit-in-None.ensures ∙ sym (c.in-None.ensures _))
