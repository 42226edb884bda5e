-- `put_number` meets its contract.
use Rattle.card_reply.proofs.Lines.{no_number, number-line}
use Rattle.lines.proofs.printing.Widths.{at_most}
use Rattle.lines.proofs.Stores.{then, as-text, none-put}
use native.Mathlib.Omega.{arith}
use Rattle.card_reply.proofs.put_number.Goals as goal

pub returns-then-n-eq0 : goal.returns-then-n-eq0
returns-then-n-eq0 c = record { puts = as-text (no_number c.args.card.now c.line_number-n.ensures c.if-n-eq0.true) (none-put _ _); upper_bound = omega arith }

pub put_decimal-b-requires : goal.put_decimal-b-requires
put_decimal-b-requires c = omega (arith, at_most 9 c.line_number-n.result (omega arith))

pub put_all-requires : goal.put_all-requires
put_all-requires c = omega (
  arith,
  at_most 9 c.line_number-n.result (omega arith),
)

pub returns : goal.returns
returns c =
    record {
      puts = as-text (number-line c.args.card.now c.line_number-n.ensures c.if-n-eq0.false)
          (then (then c.put_all-a.ensures c.put_decimal-b.ensures.puts) c.put_all.ensures);
      upper_bound = omega (arith, at_most 9 c.line_number-n.result (omega arith));
    }
