-- `reply::put_cell` meets its contract: four texts, one behind the other.
use mathlib.Core.Path.{ap}
use native.Mathlib.Omega.{arith}
use Rattle.lines.specs.Printing.{cell_text}
use Rattle.lines.proofs.Stores.{then, as-text}
use Rattle.program.proofs.reply.Cells.{element-small}
use Rattle.program.proofs.reply.put_cell.Goals as goal

pub put_name-a-requires-clause-element_bound : goal.put_name-a-requires-clause-element_bound
put_name-a-requires-clause-element_bound c = element-small c.args.memory.now c.args.bank c.args.element c.requires.t

pub put_value-c-requires-clause-n_bound : goal.put_value-c-requires-clause-n_bound
put_value-c-requires-clause-n_bound c = c.get-n.ensures.upper_bound

pub returns : goal.returns
returns c =
    let name = c.put_name-a.ensures.puts in
    let equals = c.put_all-b.ensures in
    let value = as-text (ap (cell_text c.args.bank) c.get-n.ensures.value) c.put_value-c.ensures.puts in
    record { puts = then (then (then name equals) value) c.put_all.ensures; upper_bound = omega arith }
