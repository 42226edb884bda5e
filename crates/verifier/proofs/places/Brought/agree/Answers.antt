-- `verifier::places::Brought::agree` meets its contract: jumps brought nothing, or something.
use Rattle.verifier.proofs.Bits.{agree}
use Rattle.verifier.proofs.Merging.{agrees-none, agrees-same}
use Rattle.verifier.proofs.places.Brought.agree.Goals as goal

pub returns-in-Some : goal.returns-in-Some
returns-in-Some c = agrees-same (rw c.in-Some.is at c.at.ensures) _ (agree c.args.held.now c.in-Some.there c.eq.ensures)

pub returns-in-None : goal.returns-in-None
returns-in-None c = agrees-none _ (rw c.in-None.is at c.at.ensures)
