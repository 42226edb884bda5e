-- `put_lines` meets its contract: the lines of the numbers before stand in the buffer.
use Rattle.std.proofs.Common.{rules}
use native.Mathlib.Omega.{arith}
use Rattle.read_reply.proofs.Loops.{start, long, next, end}
use Rattle.read_reply.proofs.put_lines.Goals as goal

pub loop-number-init : goal.loop-number-init
loop-number-init c = start _ _

pub put_line-at-requires : goal.put_line-at-requires
put_line-at-requires c =
    let small = c.requires.cell_numbers.below c.loop-number.number-index c.loop-number-test.true in
    record {
      number_lt_cell_count = omega (arith, small);
      at_in_bounds = omega (arith, c.loop-number.invariant.short, long c.loop-number.invariant, c.requires.list_in_bounds);
    }

pub loop-number-preserved : goal.loop-number-preserved
loop-number-preserved c =
    next c.loop-number.invariant c.loop-number-test.true (search rules) c.put_line-at.ensures.puts c.put_line-at.ensures.upper_bound

pub returns : goal.returns
returns c =
    let pair = end c.loop-number.invariant c.loop-number-test.false in
    record { puts = pair.0; upper_bound = pair.1 }
