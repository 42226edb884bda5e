-- `stream::receive_case` meets its contract: a piece more is kept.
use lib.ListN.{take}
use Rattle.program.proofs.stream.Receiving.{more}
use Rattle.program.proofs.stream.receive_case.Goals as goal

pub loop-preserved : goal.loop-preserved
loop-preserved g c = more c.loop.invariant (take c.in_ok-k.k c.read.new.buf) c.feed.ensures
