-- `identifiers::letter_at` meets its contract: a bank has the letter, or none.
use mathlib.Core.Path.{sym, ◌∙◌}
use Rattle.token_table.proofs.identifiers.Words.{a-letter, no-letter}
use Rattle.token_table.proofs.identifiers.letter_at.Goals as goal

pub returns-in-Some : goal.returns-in-Some
returns-in-Some c = a-letter c.args.text.now
    c.args.at
    c.requires.0
    c.requires.1 _
    (sym c.bank_of.ensures ∙ c.in-Some.is)
    (rw (← c.from.ensures) c.word.ensures)

pub returns-in-None : goal.returns-in-None
returns-in-None c = no-letter c.args.text.now c.args.at
    c.requires.0 c.requires.1
    (sym c.bank_of.ensures ∙ c.in-None.is) c.refused.ensures
