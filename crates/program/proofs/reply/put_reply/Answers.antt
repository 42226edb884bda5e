-- `reply::put_reply` meets its contract, answer by answer.
use mathlib.Core.Path.{ap}
use native.Mathlib.Omega.{arith}
use Rattle.program.specs.Reply.{report_text}
use Rattle.lines.proofs.Stores.{then, as-text}
use Rattle.program.proofs.reply.Cells.{has-cell}
use Rattle.program.proofs.reply.Endings.{alone}
use Rattle.program.proofs.reply.put_reply.Goals as goal

pub put_cell-requires-clause-t : goal.put_cell-requires-clause-t
put_cell-requires-clause-t c = has-cell c.args.memory.now _ _ c.requires.memory_len (c.requires.cell_inside.inside c.in-Done.is)

pub returns-in-Done : goal.returns-in-Done
returns-in-Done c =
    let first = as-text (ap report_text c.reported.ensures) c.put_report-at.ensures.puts in
    let second = c.put_cell.ensures in
    record { puts = then first (rw c.in-Done.is second.puts); upper_bound = omega (arith, c.put_report-at.ensures.upper_bound, second.upper_bound) }

pub returns-in-Fault : goal.returns-in-Fault
returns-in-Fault c =
    let first = as-text (ap report_text c.reported.ensures) c.put_report-at.ensures.puts in
    let told = c.in-Fault.is in
    record { puts = rw told (alone (rw told at first)); upper_bound = omega (arith, c.put_report-at.ensures.upper_bound) }

pub returns-in-Refused : goal.returns-in-Refused
returns-in-Refused c =
    let first = as-text (ap report_text c.reported.ensures) c.put_report-at.ensures.puts in
    let told = c.in-Refused.is in
    record { puts = rw told (alone (rw told at first)); upper_bound = omega (arith, c.put_report-at.ensures.upper_bound) }
