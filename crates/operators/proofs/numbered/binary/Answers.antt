-- `numbered::binary` meets its contract: two integers, or operands that pair as reals.
use Rattle.operators.proofs.numbered.binary.Goals as goal

pub returns-then-n-eq-POWER : goal.returns-then-n-eq-POWER
returns-then-n-eq-POWER c = rw c.if-n-eq-POWER.true c.power.ensures
