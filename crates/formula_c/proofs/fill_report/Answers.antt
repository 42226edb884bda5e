-- `formula_c::fill_report` meets its contract: the words of the report, with its value's pattern.
use mathlib.Core.Path.{◌∙◌, ap}
use Rattle.c_report.specs.Words.{words_with, words_of}
use Rattle.formula_c.proofs.fill_report.Goals as goal

pub returns : goal.returns
returns c =
    let r = c.reported-r in
    c.fill.ensures ∙ ap (words_with r.result) c.bits_of-bits.ensures ∙ ap words_of r.ensures
