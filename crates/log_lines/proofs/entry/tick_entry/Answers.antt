-- `tick_entry` meets its contract.
use mathlib.Core.Path.{sym, ◌∙◌}
use Rattle.log_lines.proofs.Entries.{tick_is}
use Rattle.log_lines.proofs.entry.tick_entry.Goals as goal

pub returns-in-Some : goal.returns-in-Some
returns-in-Some c = tick_is c.args.value.now
    (sym c.in-Some.is ∙ c.pattern_of.ensures)

pub returns-in-None : goal.returns-in-None
returns-in-None c = tick_is c.args.value.now (sym c.in-None.is ∙ c.pattern_of.ensures)
