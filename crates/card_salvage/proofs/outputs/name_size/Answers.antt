-- `outputs::name_size` meets its contract: a number of 64 bits has at most 20 digits.
use Rattle.salvage_laws.proofs.Names.{name-size}
use Rattle.lines.proofs.printing.Widths.{at_most}
use native.Mathlib.Omega.{arith}
use Rattle.card_salvage.proofs.outputs.name_size.Goals as goal

pub overflow_add-result : goal.overflow_add-result
overflow_add-result c = omega (arith, c.width_of.ensures, at_most 19 c.args.first (omega (arith, c.ranges.first)))

pub overflow_add-result-2 : goal.overflow_add-result-2
overflow_add-result-2 c = omega (
  arith,
  c.width_of.ensures,
  at_most 19 c.args.first (omega (arith, c.ranges.first)),
  c.width_of-2.ensures,
  at_most 19 c.args.size (omega (arith, c.ranges.size)),
)

pub overflow_add-result-3 : goal.overflow_add-result-3
overflow_add-result-3 c = omega (
  arith,
  c.width_of.ensures,
  at_most 19 c.args.first (omega (arith, c.ranges.first)),
  c.width_of-2.ensures,
  at_most 19 c.args.size (omega (arith, c.ranges.size)),
  c.width_of-3.ensures,
  at_most 9 c.args.answer (omega (arith, c.ranges.answer)),
)

pub returns : goal.returns
returns c = omega (
  arith,
  c.width_of.ensures,
  c.width_of-2.ensures,
  c.width_of-3.ensures,
  name-size c.args.first c.args.size c.args.answer,
)
