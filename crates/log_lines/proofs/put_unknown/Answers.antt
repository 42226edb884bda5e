-- `put_unknown` meets its contract.
use native.Mathlib.Omega.{arith}
use Rattle.lines.proofs.Stores.{then}
use Rattle.lines.proofs.printing.Widths.{at_most}
use Rattle.log_lines.proofs.put_unknown.Goals as goal

pub put_decimal-b-requires : goal.put_decimal-b-requires
put_decimal-b-requires c = omega (arith, at_most 9 c.args.k (omega arith))

pub put_all-requires : goal.put_all-requires
put_all-requires c = omega (
  arith,
  at_most 9 c.args.k (omega arith),
)

pub returns-clause-puts : goal.returns-clause-puts
returns-clause-puts c = then (then c.put_all-a.ensures c.put_decimal-b.ensures.puts) c.put_all.ensures

pub returns-clause-upper_bound : goal.returns-clause-upper_bound
returns-clause-upper_bound c =
    omega (arith, c.put_all.ensures.end, c.put_decimal-b.ensures.value, c.put_all-a.ensures.end, at_most 9 c.args.k (omega arith))
