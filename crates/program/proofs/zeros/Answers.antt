-- `program::zeros` meets its contract: the array and the definition compute to one list.
use mathlib.Core.Path.{refl}
use Rattle.program.specs.Cases.{zeros}
use Rattle.program.proofs.zeros.Goals as goal

pub returns-clause-value : goal.returns-clause-value
unfolding zeros
returns-clause-value g c = refl
