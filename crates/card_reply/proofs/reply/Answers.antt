-- `reply` meets its contract.
use Rattle.card_reply.proofs.Lines.{good-reply, far-reply, bad-reply}
use Rattle.lines.proofs.Stores.{then, as-text}
use native.Mathlib.Omega.{arith}
use Rattle.card_reply.proofs.reply.Goals as goal

pub returns-then-answer-eq0 : goal.returns-then-answer-eq0
returns-then-answer-eq0 c =
    record {
      puts = as-text (good-reply c.args.file.now c.read.ensures c.if-answer-eq0.true) c.put_result-at.ensures.puts;
      upper_bound = omega (arith, c.put_result-at.ensures.upper_bound);
    }

pub returns-then-file-place : goal.returns-then-file-place
returns-then-file-place c =
    record {
      puts = as-text (far-reply c.args.file.now c.read.ensures c.if-answer-eq0.false c.wide-place.ensures c.if-file-place.true)
          (then c.put_result-at.ensures.puts c.put_refused.ensures.puts);
      upper_bound = omega (arith, c.put_result-at.ensures.upper_bound, c.put_refused.ensures.upper_bound);
    }

pub returns : goal.returns
returns c =
    record {
      puts = as-text (bad-reply c.args.file.now c.read.ensures c.if-answer-eq0.false c.wide-place.ensures)
          (then c.put_result-at.ensures.puts c.put_refused-2.ensures.puts);
      upper_bound = omega (arith, c.put_result-at.ensures.upper_bound, c.put_refused-2.ensures.upper_bound);
    }
