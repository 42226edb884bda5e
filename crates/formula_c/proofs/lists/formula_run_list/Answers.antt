-- `lists::formula_run_list` meets its contract: the words of the operation's answers, which are forty.
use mathlib.Core.Path.{ap, ◌∙◌}
use lib.ListN.{length}
use Rattle.list_laws.specs.Running.{Buffers, formulas_of}
use Rattle.list_laws.proofs.Laws.{list-theorems}
use Rattle.formula_c.proofs.lists.Filling.{both}
use Rattle.formula_c.proofs.lists.formula_run_list.Goals as goal

pub fill_answers-requires : goal.fill_answers-requires
fill_answers-requires c =
    let s = c.args in
    let found : Buffers = record { memory = s.memory.now; code = s.code.now; index = s.index.now } in
    ap length c.run_list-answers.ensures.answers_value ∙ (list-theorems s.tick).forty (formulas_of s.places.now s.texts.now) found

pub returns-clause-res_after : goal.returns-clause-res_after
returns-clause-res_after c =
    let e = c.run_list-answers.ensures in
    c.fill_answers.ensures ∙ both e.answer_value e.answers_value
