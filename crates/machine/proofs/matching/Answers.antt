-- `matching` meets its contract: the operator of the number, if there is one and a value is held, over the range of the word.
use borrow.Author.Tests.{lt-ltb, le-ltb}
use mathlib.Core.Path.{sym, ◌∙◌}
use Rattle.machine.proofs.Visits.{over}
use Rattle.machine.proofs.matching.Goals as goal

pub returns-then-h-lt1 : goal.returns-then-h-lt1
returns-then-h-lt1 c = λ t. rw (lt-ltb c.args.h 1 c.if-h-lt1.true) c.no_visit.ensures

pub returns-in-Some-range_of : goal.returns-in-Some-range_of
returns-in-Some-range_of c = λ t.
    let is = sym (rw c.number_of.ensures at c.match_of.ensures) ∙ c.in-Some.is in
    rw (le-ltb c.args.h 1 c.if-h-lt1.false, is, ← c.word_of.ensures) (c.matching_in.ensures t ∙ over c.in-Some-range_of.cells c.in-Some-range_of.ensures _)

pub returns-in-None : goal.returns-in-None
returns-in-None c = λ t.
    let is = sym (rw c.number_of.ensures at c.match_of.ensures) ∙ c.in-Some.is in
    rw (le-ltb c.args.h 1 c.if-h-lt1.false, is, ← c.word_of.ensures) (c.no_visit-in-None.ensures ∙ sym (c.in-None.ensures _))
