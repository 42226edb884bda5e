-- `compiler::is_longer` meets its contract.
use mathlib.Core.Path.{refl}
use Rattle.compiler.proofs.is_longer.Goals as goal

pub returns-in-Ok : goal.returns-in-Ok
returns-in-Ok c = rw c.in-Ok.is refl
