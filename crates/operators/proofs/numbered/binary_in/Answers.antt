-- `numbered::binary_in` meets its contract: the full operators, or two integers by those of integers alone.
use Rattle.operators.proofs.numbered.binary_in.Goals as goal

pub returns-then-reals : goal.returns-then-reals
returns-then-reals c = rw c.if-reals.true c.binary.ensures
