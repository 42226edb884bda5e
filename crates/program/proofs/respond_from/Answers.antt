-- `program::respond_from` meets its contract: the case that was received is replied to, or the failure is told.
use Rattle.program.proofs.stream.Receiving.{outputs, reports}
use Rattle.program.proofs.respond_from.Goals as goal

pub returns-in-Some : goal.returns-in-Some
returns-in-Some g c = record { outputs = outputs c.in-Some.ensures c.reply.ensures; has_prefix = c.reply.ensures.there }

pub returns-in-None : goal.returns-in-None
returns-in-None g c = record { outputs = reports c.write_text.ensures.value c.write_text.ensures.output_after; has_prefix = c.write_text.ensures.has_prefix }
