-- `reply` meets its contract: the code of what was compiled, or the refusal.
use mathlib.Core.Path.{ap, ◌∙◌}
use native.Mathlib.Omega.{arith}
use Rattle.lines.proofs.Stores.{then, as-text}
use Rattle.listing_reply.specs.Reply.{refusal_text}
use Rattle.listing_reply.proofs.Replies.{both, refusal}
use Rattle.listing_reply.proofs.reply.Goals as goal

pub returns-in-Ok : goal.returns-in-Ok
returns-in-Ok c =
    record {
      puts = as-text (both c.in-Ok.ensures) (then c.put_code-at.ensures.puts c.put_index.ensures.puts);
      upper_bound = omega (arith, c.put_code-at.ensures.upper_bound, c.put_index.ensures.upper_bound);
    }

pub returns-in-Err : goal.returns-in-Err
returns-in-Err c =
    record {
      puts = as-text (ap refusal_text c.reported.ensures ∙ refusal c.in-Err.ensures) c.put_refusal.ensures.puts;
      upper_bound = c.put_refusal.ensures.upper_bound;
    }
