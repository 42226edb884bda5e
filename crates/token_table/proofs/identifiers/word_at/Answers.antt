-- `identifiers::word_at` meets its contract.
use mathlib.Core.Path.{sym, ap, ◌∙◌}
use borrow.Author.Rules.{rules}
use Rattle.memory.specs.Names.{is_digit}
use Rattle.token_table.proofs.identifiers.Cells.{no-bank}
use Rattle.token_table.proofs.identifiers.word_at.Goals as goal

pub judged-requires : goal.judged-requires
judged-requires c = (search rules, ap is_digit (sym c.byte_at-second.ensures) ∙ sym c.is_digit.ensures ∙ c.if-not-is_digit.true)

pub cell_at-requires : goal.cell_at-requires
cell_at-requires c = record {
  at_in_bounds = (c.requires.0, (c.requires.1, sym c.bank_of.ensures ∙ c.in-Some.is));
  first_value = (c.byte_at-second.ensures, sym c.is_digit.ensures ∙ c.if-not-is_digit.false);
}

pub returns-in-None : goal.returns-in-None
returns-in-None c =
    no-bank c.args.text.now
    c.args.at
    c.requires.1
    (ap is_digit (sym c.byte_at-second.ensures)
    ∙ sym c.is_digit.ensures ∙ c.if-not-is_digit.false)
    (sym c.bank_of.ensures ∙ c.in-None.is) c.refused.ensures
