-- `formula_int_c::formula_int_evaluate` meets its contract: the words of the operation's answer, whose value is an integer.
use mathlib.Core.Path.{◌∙◌, ap}
use Rattle.profile_laws.proofs.Theorems.{profile-theorems}
use Rattle.formula_int_c.proofs.Answers.{integer-answer}
use Rattle.c_report.specs.Words.{report_words}
use Rattle.formula_int_c.proofs.formula_int_evaluate.Goals as goal

pub fill_report-requires : goal.fill_report-requires
fill_report-requires c =
    let s = c.args in
    integer-answer c.evaluate_in-answer.ensures
    (profile-theorems.integers_evaluate s.code.now s.memory.now s.instructions s.tick)

pub returns : goal.returns
returns c = c.fill_report.ensures ∙ ap report_words c.evaluate_in-answer.ensures
