-- `verifier::long` meets its contract: tables of four sizes, or too many instructions.
use native.Mathlib.Omega.{arith}
use Rattle.verifier.proofs.Checking.{too_many}
use Rattle.verifier.proofs.long.Goals as goal

pub returns : goal.returns
returns c = too_many _ _ _ (omega arith)
