-- `formula_c::formula_check` meets its contract: the words of the operation's answer.
use mathlib.Core.Path.{◌∙◌, ap}
use Rattle.c_report.specs.Words.{report_words}
use Rattle.formula_c.proofs.formula_check.Goals as goal

pub returns : goal.returns
returns c = c.fill_report.ensures ∙ ap report_words c.check-answer.ensures
