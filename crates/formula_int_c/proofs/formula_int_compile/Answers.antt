-- `formula_int_c::formula_int_compile` meets its contract: the words of the operation's answer, whose value is an integer.
use mathlib.Core.Path.{◌∙◌, ap}
use mathlib.Core.List.{[]}
use Rattle.promises.specs.Promises.{compile}
use Rattle.formula_int_c.proofs.Answers.{of-operation}
use Rattle.c_report.specs.Words.{report_words}
use Rattle.formula_int_c.proofs.formula_int_compile.Goals as goal

pub fill_report-requires : goal.fill_report-requires
fill_report-requires c =
    let s = c.args in
    of-operation (compile s.expr.now) [] [] s.code.now [] c.compile_in-answer.ensures.value

pub returns-clause-report_after : goal.returns-clause-report_after
returns-clause-report_after c = c.fill_report.ensures ∙ ap report_words c.compile_in-answer.ensures.value
