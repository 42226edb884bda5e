-- `respond::respond_from` meets its contract: the case that was received is replied to, or the failure is told.
use native.Mathlib.Omega.{arith}
use Rattle.listing_reply.proofs.respond.Ends.{prints, reports}
use Rattle.listing_reply.proofs.respond.respond_from.Goals as goal

pub returns-in-Some : goal.returns-in-Some
returns-in-Some g c =
    record {
      prints = prints c.in-Some.ensures c.bytes.ensures.text c.bytes-in-Some.ensures.text c.reply.ensures.puts;
      upper_bound = c.reply.ensures.upper_bound;
    }

pub returns-in-None : goal.returns-in-None
returns-in-None g c = record { prints = reports c.put_all.ensures; upper_bound = omega (arith, c.put_all.ensures.end) }
