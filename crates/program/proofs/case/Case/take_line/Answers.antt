-- `Case::take_line` meets its contract: one law for each kind of line.
use mathlib.Core.Path.{sym, ◌∙◌}
use Rattle.program.proofs.Sizes.{prefix-length}
use Rattle.program.proofs.case.Effects.{value_of, skipped, target_line, expr_line, cell-line}
use Rattle.program.proofs.case.Case.take_line.Goals as goal

pub returns-then-k-line : goal.returns-then-k-line
returns-then-k-line c = skipped c.args.self.now c.args.line.now c.until-k.ensures c.if-k-line.true

pub slice_bounds-key-end : goal.slice_bounds-key-end
slice_bounds-key-end c = prefix-length c.args.line.now c.until-k.result c.until-k.ensures.1

pub returns-then-same_bytes : goal.returns-then-same_bytes
returns-then-same_bytes c =
    target_line c.args.self.now c.args.line.now c.until-k.ensures c.if-k-line.false (c.set.ensures ∙ value_of c.args.line.now c.until-k.result)
    (sym c.if-same_bytes.true ∙ c.same_bytes.ensures)

pub returns-then-same_bytes-2 : goal.returns-then-same_bytes-2
returns-then-same_bytes-2 c =
    expr_line c.args.self.now c.args.line.now c.until-k.ensures c.if-k-line.false
    (c.set-then-same_bytes-2.ensures ∙ value_of c.args.line.now c.until-k.result) (sym c.if-same_bytes.false ∙ c.same_bytes.ensures)
    (sym c.if-same_bytes-2.true ∙ c.same_bytes-else-same_bytes.ensures)

pub returns-else-same_bytes-2 : goal.returns-else-same_bytes-2
returns-else-same_bytes-2 c =
    cell-line c.args.self.now c.args.line.now c.until-k.ensures c.if-k-line.false (value_of c.args.line.now c.until-k.result)
    (sym c.if-same_bytes.false ∙ c.same_bytes.ensures) (sym c.if-same_bytes-2.false ∙ c.same_bytes-else-same_bytes.ensures) c.set_cell.ensures
