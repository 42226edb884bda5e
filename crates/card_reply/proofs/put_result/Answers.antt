-- `put_result` meets its contract: seven texts, one behind the other.
use Rattle.card_reply.proofs.Lines.{result-lines}
use Rattle.lines.proofs.printing.Widths.{at_most}
use Rattle.lines.proofs.Stores.{then, as-text}
use native.Mathlib.Omega.{arith}
use Rattle.card_reply.proofs.put_result.Goals as goal

pub put_decimal-b-requires : goal.put_decimal-b-requires
put_decimal-b-requires c = omega (
  arith,
  at_most 9 c.args.answer (omega (arith, c.ranges.answer)),
  at_most 9 c.args.place (omega (arith, c.ranges.place)),
  at_most 9 c.args.count (omega (arith, c.ranges.count)),
)

pub put_all-c-requires : goal.put_all-c-requires
put_all-c-requires c = omega (
  arith,
  at_most 9 c.args.answer (omega (arith, c.ranges.answer)),
  at_most 9 c.args.place (omega (arith, c.ranges.place)),
  at_most 9 c.args.count (omega (arith, c.ranges.count)),
)

pub put_decimal-d-requires : goal.put_decimal-d-requires
put_decimal-d-requires c = omega (
  arith,
  at_most 9 c.args.answer (omega (arith, c.ranges.answer)),
  at_most 9 c.args.place (omega (arith, c.ranges.place)),
  at_most 9 c.args.count (omega (arith, c.ranges.count)),
)

pub put_all-e-requires : goal.put_all-e-requires
put_all-e-requires c = omega (
  arith,
  at_most 9 c.args.answer (omega (arith, c.ranges.answer)),
  at_most 9 c.args.place (omega (arith, c.ranges.place)),
  at_most 9 c.args.count (omega (arith, c.ranges.count)),
)

pub put_decimal-f-requires : goal.put_decimal-f-requires
put_decimal-f-requires c = omega (
  arith,
  at_most 9 c.args.answer (omega (arith, c.ranges.answer)),
  at_most 9 c.args.place (omega (arith, c.ranges.place)),
  at_most 9 c.args.count (omega (arith, c.ranges.count)),
)

pub put_all-requires : goal.put_all-requires
put_all-requires c = omega (
  arith,
  at_most 9 c.args.answer (omega (arith, c.ranges.answer)),
  at_most 9 c.args.place (omega (arith, c.ranges.place)),
  at_most 9 c.args.count (omega (arith, c.ranges.count)),
)

pub returns : goal.returns
returns c =
    record {
      puts = as-text (result-lines c.args.answer c.args.place c.args.count)
          (then (then (then (then (then (then c.put_all-a.ensures c.put_decimal-b.ensures.puts) c.put_all-c.ensures) c.put_decimal-d.ensures.puts)
          c.put_all-e.ensures) c.put_decimal-f.ensures.puts) c.put_all.ensures);
      upper_bound = omega (
        arith,
        at_most 9 c.args.answer (omega (arith, c.ranges.answer)),
        at_most 9 c.args.place (omega (arith, c.ranges.place)),
        at_most 9 c.args.count (omega (arith, c.ranges.count)),
      );
    }
