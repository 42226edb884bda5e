-- `verifier::kinds::stays` meets its contract.
use mathlib.Core.Path.{ap}
use lib.Dec.{leb}
use Rattle.verifier.proofs.kinds.stays.Goals as goal

pub returns : goal.returns
returns c = ap (λ d. leb d c.args.left) c.word_of.ensures
