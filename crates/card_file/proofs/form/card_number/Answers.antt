-- `form::card_number` meets its contract.
use mathlib.Core.Path.{sym, ◌∙◌}
use Rattle.card_file.proofs.form.Fields.{number_is, no_number}
use Rattle.card_file.proofs.form.card_number.Goals as goal

pub returns-in-Some : goal.returns-in-Some
returns-in-Some c = number_is c.args.text.now
    (sym c.in-Some.is ∙ c.number_below.ensures)

pub returns-in-None : goal.returns-in-None
returns-in-None c = no_number c.args.text.now (sym c.in-None.is ∙ c.number_below.ensures)
