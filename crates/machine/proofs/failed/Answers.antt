-- `failed` meets its contract: only Stop has a fault.
use mathlib.Core.Path.{◌≡◌, refl}
use mathlib.Core.Logic.{⊎_elim}
use mathlib.Core.List.{[], ◌∷◌}
use Prim.Native.Nat.{ℕ}
use native.Mathlib.Omega.{arith}
use types.Run.{OneOf}
use denote.Enum.Declared.{tag_of}
use Rattle.values.specs.declared.Fault.{Fault}
use Rattle.machine.specs.declared.How.{How}
use Rattle.machine.specs.declared.How.TheVariants.{Push, Skip, Stop, Stuck}
use Rattle.machine.specs.private.Steps.{stuck_at, failed_at}
use Rattle.machine.specs.contracts.How.{the_type}
use Rattle.machine.proofs.failed.Goals as goal

-- an arm of several variants knows their places in the enum
otherwise : (w : How) (f : Fault) (k : ℕ) → OneOf (0 ∷ 1 ∷ 3 ∷ []) (tag_of the_type w) → stuck_at k ≡ failed_at w f k
otherwise Push f k o = refl
otherwise Skip f k o = refl
otherwise Stop f k o = absurd (⊎_elim (λ e. omega arith) (⊎_elim (λ e. omega arith) (λ e. omega arith)) o)
otherwise Stuck f k o = refl

pub returns-in-Stop : goal.returns-in-Stop
returns-in-Stop c = rw c.in-Stop.is
