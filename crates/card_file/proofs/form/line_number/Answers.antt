-- `form::line_number` meets its contract.
use Rattle.card_file.proofs.form.Fields.{no_line, line-in, line-number}
use native.Mathlib.Omega.{arith}
use mathlib.Core.Path.{sym, ◌∙◌}
use Rattle.card_file.proofs.form.line_number.Goals as goal

pub returns-in_default : goal.returns-in_default
returns-in_default c = no_line c.args.s.now (sym c.in_default.is ∙ c.field_at.ensures)

pub overflow_add-end : goal.overflow_add-end
overflow_add-end c = omega (
  arith,
  (line-in c.args.s.now _
      (sym c.in-Some.is ∙ c.field_at.ensures)).inside,
)

pub slice_bounds-card_number-end : goal.slice_bounds-card_number-end
slice_bounds-card_number-end c = omega (
  arith,
  (line-in c.args.s.now _
      (sym c.in-Some.is ∙ c.field_at.ensures)).inside,
)

pub returns : goal.returns
returns c = c.card_number.ensures ∙ line-number c.args.s.now _
    (sym c.in-Some.is ∙ c.field_at.ensures)
