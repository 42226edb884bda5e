-- `case::set_cell` meets its contract: the name, then the value's form, then the cell.
use mathlib.Core.Path.{sym, ◌∙◌}
use Rattle.program.proofs.Names.{has_named}
use Rattle.program.proofs.case.Settings.{no_name, no-form, set, holdable}
use Rattle.program.proofs.case.set_cell.Goals as goal

pub returns-in_default : goal.returns-in_default
returns-in_default c =
    let a = c.args in
    no_name a.memory.now a.value.now (sym c.cell_named.ensures ∙ c.in_default.is)

pub returns-in_default-pattern_of : goal.returns-in_default-pattern_of
returns-in_default-pattern_of c =
    let a = c.args in
    let name = sym c.cell_named.ensures ∙ c.in-Some.is in
    no-form a.memory.now a.value.now name (sym c.in_default-pattern_of.is ∙ c.pattern_of.ensures)

pub put-requires : goal.put-requires
put-requires c =
    let a = c in
    let name = sym c.cell_named.ensures
    ∙ c.in-Some.is in
    let form = sym c.in-Some-pattern_of.is ∙ c.pattern_of.ensures in
    (has_named a.args.memory.now a.args.key.now a.requires name, holdable a.args.value.now form)

pub returns : goal.returns
returns c =
    let a = c.args in
    let name = sym c.cell_named.ensures
    ∙ c.in-Some.is in
    let form = sym c.in-Some-pattern_of.is ∙ c.pattern_of.ensures in
    set a.memory.now a.value.now name form c.put.ensures
