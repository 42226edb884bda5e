-- `numerals::real_at` meets its contract: the two runs of digits, with the dot between them, are a mantissa.
use mathlib.Core.Path.{sym, ◌∙◌}
use native.Mathlib.Omega.{arith}
use Rattle.token_table.proofs.numerals.Forms.{literal-fits, within-dot, no_part, dotted-mantissa, longer-part, real-run}
use Rattle.token_table.proofs.numerals.real_at.Goals as goal

pub overflow_add-dot : goal.overflow_add-dot
overflow_add-dot c = omega (
  arith,
  within-dot c.args.text.now c.args.at c.requires.at_in_bounds.0 c.requires.at_in_bounds.1
      c.requires.whole_value c.requires.dot_value.0 c.requires.dot_value.1,
)

pub digits-d-requires : goal.digits-d-requires
digits-d-requires c = (
  within-dot c.args.text.now c.args.at c.requires.at_in_bounds.0 c.requires.at_in_bounds.1 c.requires.whole_value
      c.requires.dot_value.0 c.requires.dot_value.1,
  omega (arith, c.requires.whole_value),
)

pub returns-then-end-dot : goal.returns-then-end-dot
returns-then-end-dot c = no_part c.args.text.now c.args.at
    c.requires.at_in_bounds.0 c.requires.at_in_bounds.1 c.requires.whole_value
    c.requires.dot_value.0 c.requires.dot_value.1 c.digits-d.ensures.value_value
    c.digits-d.ensures.end_value.0 c.if-end-dot.true c.refused.ensures

pub exponent_at-requires : goal.exponent_at-requires
exponent_at-requires c = (
  dotted-mantissa c.args.text.now c.args.at
      c.requires.at_in_bounds.0 c.requires.at_in_bounds.1 c.requires.whole_value
      c.requires.dot_value.0 c.requires.dot_value.1 c.digits-d.ensures.value_value
      c.digits-d.ensures.end_value.0 c.if-end-dot.false c.digits-d.ensures.end_value.1,
  sym c.digits-d.ensures.next_value ∙ c.if-next-eq69.true,
)

pub returns-then-is_run : goal.returns-then-is_run
returns-then-is_run c = longer-part c.args.text.now
    c.args.at c.requires.at_in_bounds.0
    c.requires.at_in_bounds.1 c.requires.whole_value
    c.requires.dot_value.0 c.requires.dot_value.1
    c.digits-d.ensures.value_value c.digits-d.ensures.end_value.0
    c.if-end-dot.false c.digits-d.ensures.next_value
    (sym c.is_run.ensures ∙ c.if-is_run.true) c.if-next-eq69.false c.refused-then-is_run.ensures

pub literal-requires : goal.literal-requires
literal-requires c = literal-fits (dotted-mantissa c.args.text.now
    c.args.at c.requires.at_in_bounds.0
    c.requires.at_in_bounds.1 c.requires.whole_value
    c.requires.dot_value.0 c.requires.dot_value.1
    c.digits-d.ensures.value_value c.digits-d.ensures.end_value.0
    c.if-end-dot.false c.digits-d.ensures.end_value.1)

pub returns : goal.returns
returns c = real-run c.args.text.now
    c.args.at c.requires.at_in_bounds.0
    c.requires.at_in_bounds.1 c.requires.whole_value
    c.requires.dot_value.0 c.requires.dot_value.1
    c.digits-d.ensures.value_value c.digits-d.ensures.end_value.0
    c.if-end-dot.false c.digits-d.ensures.next_value
    c.digits-d.ensures.end_value.1 (sym c.is_run.ensures ∙ c.if-is_run.false)
    c.literal.ensures
