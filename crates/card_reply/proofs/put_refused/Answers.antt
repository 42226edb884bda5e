-- `put_refused` meets its contract.
use Rattle.card_reply.proofs.Lines.{refused-lines}
use Rattle.lines.proofs.Stores.{then, as-text}
use native.Mathlib.Omega.{arith}
use Rattle.card_reply.proofs.put_refused.Goals as goal

pub returns : goal.returns
returns c =
    record {
      puts = as-text (refused-lines c.args.card.now c.args.answer)
          (then (then (then c.put_number-a.ensures.puts c.put_all-b.ensures) c.put-c.ensures.puts) c.put_all.ensures);
      upper_bound = omega arith;
    }
