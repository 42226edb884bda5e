-- `put_refusal` meets its contract.
use mathlib.Core.Path.{refl}
use native.Mathlib.Omega.{arith}
use Rattle.lines.proofs.Stores.{then, as-text}
use Rattle.listing_reply.proofs.Parts.{refusal_is}
use Rattle.listing_reply.proofs.put_refusal.Goals as goal

pub returns : goal.returns
returns c =
    record {
      puts = as-text (refusal_is c.args.report refl)
          (then (then (then c.put_report-a.ensures.puts c.put_all-b.ensures) c.put-c.ensures.puts) c.put_all.ensures);
      upper_bound = omega (
        arith,
        c.put_report-a.ensures.upper_bound,
        c.put_all-b.ensures.end,
        c.put-c.ensures.upper_bound,
        c.put_all.ensures.end,
      );
    }
