-- `verifier::check` meets its contract: the check with reals.
use Rattle.verifier.proofs.Verdicts.{correct}
use Rattle.verifier.proofs.check.Goals as goal

pub returns : goal.returns
returns c = correct _ _ _ c.check_in.ensures
