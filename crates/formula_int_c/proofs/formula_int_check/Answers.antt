-- `formula_int_c::formula_int_check` meets its contract: the words of the operation's answer, whose value is an integer.
use mathlib.Core.Path.{◌∙◌, ap}
use mathlib.Core.List.{[]}
use Rattle.promises.specs.Promises.{check}
use Rattle.formula_int_c.proofs.Answers.{of-operation}
use Rattle.c_report.specs.Words.{report_words}
use Rattle.formula_int_c.proofs.formula_int_check.Goals as goal

pub fill_report-requires : goal.fill_report-requires
fill_report-requires c =
    let s = c.args in
    of-operation (check s.instructions) [] [] s.code.now [] c.check_in-answer.ensures

pub returns : goal.returns
returns c = c.fill_report.ensures ∙ ap report_words c.check_in-answer.ensures
