-- `formula_c::formula_evaluate` meets its contract: the words of the operation's answer.
use mathlib.Core.Path.{◌∙◌, ap}
use Rattle.c_report.specs.Words.{report_words}
use Rattle.formula_c.proofs.formula_evaluate.Goals as goal

pub returns : goal.returns
returns c = c.fill_report.ensures ∙ ap report_words c.evaluate-answer.ensures
