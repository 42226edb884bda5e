-- `diagnostics::earlier` meets its contract: the lesser number is the earlier diagnostic.
use native.Mathlib.Omega.{arith}
use Rattle.draft.proofs.diagnostics.Diagnostics.{lesser}
use Rattle.draft.proofs.diagnostics.earlier.Goals as goal

pub returns : goal.returns
returns c = record { result_value = rw c.min.ensures (lesser c.args.a c.args.b); upper_bound = omega (arith, c.min.ensures) }
