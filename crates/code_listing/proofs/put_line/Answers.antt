-- `put_line` meets its contract.
use Rattle.code_listing.proofs.Lines.{line-is}
use Rattle.code.specs.Instructions.{instruction_of}
use Rattle.lines.proofs.printing.Widths.{at_most}
use Rattle.lines.proofs.Stores.{then, as-text}
use native.Mathlib.Omega.{arith}
use Rattle.code_listing.proofs.put_line.Goals as goal

pub put_decimal-a-requires : goal.put_decimal-a-requires
put_decimal-a-requires c = omega (arith, at_most 3 c.args.place (omega (arith, c.requires.fact.1)))

pub put_all-b-requires : goal.put_all-b-requires
put_all-b-requires c = omega (arith, c.put_decimal-a.ensures.value, at_most 3 c.args.place (omega (arith, c.requires.fact.1)))

pub put_instruction-c-requires-clause-at_in_bounds : goal.put_instruction-c-requires-clause-at_in_bounds
put_instruction-c-requires-clause-at_in_bounds c = omega (
  arith,
  c.put_all-b.ensures.end,
  c.put_decimal-a.ensures.value,
  at_most 3 c.args.place (omega (arith, c.requires.fact.1)),
)

pub put_all-requires : goal.put_all-requires
put_all-requires c = omega (
  arith,
  c.put_instruction-c.ensures.upper_bound,
  c.put_all-b.ensures.end,
  c.put_decimal-a.ensures.value,
  at_most 3 c.args.place (omega (arith, c.requires.fact.1)),
)

pub returns-clause-puts : goal.returns-clause-puts
returns-clause-puts c =
    as-text (line-is c.args.place (instruction_of c.args.w))
    (then (then (then c.put_decimal-a.ensures.puts c.put_all-b.ensures) c.put_instruction-c.ensures.puts) c.put_all.ensures)

pub returns-clause-upper_bound : goal.returns-clause-upper_bound
returns-clause-upper_bound c = omega (
  arith,
  c.put_all.ensures.end,
  c.put_instruction-c.ensures.upper_bound,
  c.put_all-b.ensures.end,
  c.put_decimal-a.ensures.value,
  at_most 3 c.args.place (omega (arith, c.requires.fact.1)),
)
