-- `put_line` meets its contract: the name, and the line's end.
use native.Mathlib.Omega.{arith}
use Rattle.lines.proofs.Stores.{then, as-text}
use Rattle.read_reply.proofs.Names.{at_most, line-is}
use Rattle.read_reply.proofs.put_line.Goals as goal

pub overflow_sub-element : goal.overflow_sub-element
overflow_sub-element c = (at_most c.requires.number_lt_cell_count c.bank_of-bank.ensures c.first_number.ensures).0

pub put_name-end-requires : goal.put_name-end-requires
put_name-end-requires c =
    let small = at_most c.requires.number_lt_cell_count c.bank_of-bank.ensures c.first_number.ensures in
    record { element_bound = omega (arith, small.0, small.1); at_in_bounds = omega arith }

pub returns : goal.returns
returns c =
    let line = then c.put_name-end.ensures.puts c.put_all.ensures in
    let same = line-is c.args.number c.first_number.result c.bank_of-bank.result c.bank_of-bank.ensures c.first_number.ensures in
    record { puts = as-text same line; upper_bound = omega arith }
