-- `put_range` meets its contract.
use Rattle.code_listing.proofs.Lines.{range-known}
use Rattle.lines.proofs.Stores.{then, as-text}
use native.Mathlib.Omega.{arith}
use Rattle.lines.proofs.printing.Widths.{at_most}
use Rattle.code_listing.proofs.put_range.Goals as goal

pub put_decimal-requires : goal.put_decimal-requires
put_decimal-requires c = omega (arith, at_most 4 c.range_count.result (omega (arith, c.range_count.ensures)))

pub returns-in-Some-clause-puts : goal.returns-in-Some-clause-puts
returns-in-Some-clause-puts c =
    as-text (range-known c.args.word c.range_bank.ensures c.bank_numbered.ensures c.in-Some.is c.range_first.ensures c.range_count.ensures)
    (then (then (then c.put_all-a.ensures c.put_name-b.ensures.puts) c.put_all-c.ensures) c.put_decimal.ensures.puts)

pub returns-in-Some-clause-upper_bound : goal.returns-in-Some-clause-upper_bound
returns-in-Some-clause-upper_bound c = omega (
  arith,
  c.put_decimal.ensures.value,
  c.put_all-c.ensures.end,
  c.put_name-b.ensures.upper_bound,
  c.put_all-a.ensures.end,
  at_most 4 c.range_count.result (omega (arith, c.range_count.ensures)),
)
