-- `case::take_line` meets its contract: one law for each kind of line.
use mathlib.Core.Path.{sym, ◌∙◌}
use Rattle.program.proofs.Sizes.{prefix-length}
use Rattle.program.proofs.case.Effects.{value_of}
use Rattle.program.proofs.case.Lent.{lent-skipped, lent-target, lent-expr, lent-cell}
use Rattle.program.proofs.case.take_line.Goals as goal

pub returns-then-k-line : goal.returns-then-k-line
returns-then-k-line c =
    let all = lent-skipped c.args.memory.now c.args.target.now c.args.text.now c.args.n c.args.line.now
    c.requires.line_in_bounds.0 c.requires.line_in_bounds.1 c.requires.lengths_inside c.until-k.ensures c.if-k-line.true in
    record { lengths_inside_2 = all.0; result_after = all.1.0; line_value = all.1.1 }

pub slice_bounds-key-end : goal.slice_bounds-key-end
slice_bounds-key-end c = prefix-length c.args.line.now c.until-k.result c.until-k.ensures.1

pub returns-then-same_bytes : goal.returns-then-same_bytes
returns-then-same_bytes c =
    let all = lent-target c.args.memory.now c.args.target.now c.args.text.now c.args.n c.args.line.now
    c.requires.line_in_bounds.0 c.requires.line_in_bounds.1 c.requires.lengths_inside c.until-k.ensures c.if-k-line.false
    (value_of c.args.line.now c.until-k.result) (sym c.if-same_bytes.true ∙ c.same_bytes.ensures) c.put_all.ensures in
    record { lengths_inside_2 = all.0; result_after = all.1.0; line_value = all.1.1 }

pub returns-then-same_bytes-2 : goal.returns-then-same_bytes-2
returns-then-same_bytes-2 c =
    let all = lent-expr c.args.memory.now c.args.target.now c.args.text.now c.args.n c.args.line.now
    c.requires.line_in_bounds.0 c.requires.line_in_bounds.1 c.requires.lengths_inside c.until-k.ensures c.if-k-line.false
    (value_of c.args.line.now c.until-k.result) (sym c.if-same_bytes.false ∙ c.same_bytes.ensures)
    (sym c.if-same_bytes-2.true ∙ c.same_bytes-else-same_bytes.ensures) c.put_all-then-same_bytes-2.ensures in
    record { lengths_inside_2 = all.0; result_after = all.1.0; line_value = all.1.1 }

pub returns-else-same_bytes-2 : goal.returns-else-same_bytes-2
returns-else-same_bytes-2 c =
    let all = lent-cell c.args.memory.now c.args.target.now c.args.text.now c.args.n c.args.line.now
    c.requires.line_in_bounds.0 c.requires.line_in_bounds.1 c.requires.lengths_inside c.until-k.ensures c.if-k-line.false
    (value_of c.args.line.now c.until-k.result) (sym c.if-same_bytes.false ∙ c.same_bytes.ensures)
    (sym c.if-same_bytes-2.false ∙ c.same_bytes-else-same_bytes.ensures) c.set_cell.ensures in
    record { lengths_inside_2 = all.0; result_after = all.1.0; line_value = all.1.1 }
