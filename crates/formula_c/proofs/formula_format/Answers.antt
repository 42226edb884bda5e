-- `formula_c::formula_format` meets its contract: the words of the operation's answer.
use mathlib.Core.Path.{◌∙◌, ap}
use Rattle.c_report.specs.Words.{report_words}
use Rattle.formula_c.proofs.formula_format.Goals as goal

pub returns-clause-report_after : goal.returns-clause-report_after
returns-clause-report_after c = c.fill_report.ensures ∙ ap report_words c.format-answer.ensures.value
