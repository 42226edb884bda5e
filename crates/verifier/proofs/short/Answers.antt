-- `verifier::short` meets its contract: no instructions, or tables of four sizes.
use Rattle.verifier.proofs.Checking.{too_few}
use Rattle.verifier.proofs.short.Goals as goal

pub returns-then-n-eq0 : goal.returns-then-n-eq0
returns-then-n-eq0 c = too_few _ _ _ c.if-n-eq0.true
