-- `formula_int_c::fill_report` meets its contract: the words of the report, with its value's pattern.
use mathlib.Core.Path.{◌∙◌, ap}
use Rattle.operators.specs.Reals.{real_value}
use Rattle.operations.specs.declared.Report.{Report}
use Rattle.c_report.specs.Words.{words_with, words_of}
use Rattle.formula_int_c.proofs.fill_report.Goals as goal

pub integer_bits-bits-requires : goal.integer_bits-bits-requires
integer_bits-bits-requires c = ap (λ (r : Report). real_value r.value) c.reported-r.ensures ∙ c.requires

pub returns : goal.returns
returns c =
    let r = c.reported-r in
    c.fill.ensures ∙ ap (words_with r.result) c.integer_bits-bits.ensures ∙ ap words_of r.ensures
