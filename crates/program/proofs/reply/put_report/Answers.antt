-- `reply::put_report` meets its contract: five texts, one behind the other.
use native.Mathlib.Omega.{arith}
use Rattle.lines.proofs.Stores.{then}
use Rattle.lines.proofs.printing.Widths.{at_most}
use Rattle.program.proofs.reply.put_report.Goals as goal

pub put_decimal-b-requires : goal.put_decimal-b-requires
put_decimal-b-requires c =
    let r = c.args.report in
    omega (arith, at_most 9 r.answer (omega arith))

pub put_all-c-requires : goal.put_all-c-requires
put_all-c-requires c =
    let r = c.args.report in
    omega (arith, at_most 9 r.answer (omega arith))

pub put_decimal-d-requires : goal.put_decimal-d-requires
put_decimal-d-requires c =
    let r = c.args.report in
    omega (arith, at_most 9 r.answer (omega arith), at_most 19 r.place (omega arith))

pub put_all-requires : goal.put_all-requires
put_all-requires c =
    let r = c.args.report in
    omega (arith, at_most 9 r.answer (omega arith), at_most 19 r.place (omega arith))

pub returns : goal.returns
returns c =
    let r = c.args.report in
    let first = c.put_all-a.ensures in
    let number = then first c.put_decimal-b.ensures.puts in
    let second = then number c.put_all-c.ensures in
    let place = then second c.put_decimal-d.ensures.puts in
    record { puts = then place c.put_all.ensures; upper_bound = omega (arith, at_most 9 r.answer (omega arith), at_most 19 r.place (omega arith)) }
