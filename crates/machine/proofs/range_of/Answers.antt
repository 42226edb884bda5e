-- `range_of` meets its contract: the bank of the number, if there is one, and whether it has the cells.
use mathlib.Core.Path.{sym, ◌∙◌}
use Rattle.machine.proofs.Visits.{ranged, unranged}
use Rattle.machine.proofs.range_of.Goals as goal

pub returns-in-Some : goal.returns-in-Some
returns-in-Some c =
    ranged c.args.word _ (sym (rw c.range_bank.ensures at c.bank_numbered.ensures) ∙ c.in-Some.is) c.range_first.ensures c.range_count.ensures c.new.ensures

pub returns-in-None : goal.returns-in-None
returns-in-None c = unranged c.args.word (sym (rw c.range_bank.ensures at c.bank_numbered.ensures) ∙ c.in-None.is)
