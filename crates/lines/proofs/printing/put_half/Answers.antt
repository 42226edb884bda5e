-- `printing::put_half` meets its contract: no more than ten digits, behind a sign where the top bit is set.
use Prim.Native.Nat.{◌-◌, ◌*◌}
use native.Mathlib.Omega.{arith}
use Rattle.lines.proofs.printing.Widths.{at_most}
use Rattle.lines.proofs.printing.put_half.Goals as goal

pub put_decimal-requires : goal.put_decimal-requires
put_decimal-requires c = omega (arith, at_most 9 c.args.n (omega arith))

pub returns-then-n-half-clause-upper_bound : goal.returns-then-n-half-clause-upper_bound
returns-then-n-half-clause-upper_bound c = omega (arith, at_most 9 c.args.n (omega arith))

pub put_decimal-requires-2 : goal.put_decimal-requires-2
put_decimal-requires-2 c = omega (arith, at_most 9 (2 * c.args.half - c.args.n) (omega arith))

pub returns-clause-upper_bound : goal.returns-clause-upper_bound
returns-clause-upper_bound c = omega (arith, at_most 9 (2 * c.args.half - c.args.n) (omega arith))
