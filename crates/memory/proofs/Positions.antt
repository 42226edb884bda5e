-- What holds of every cell of a bank and of every fault holds of the cell that an index names.
use Rattle.std.specs.Prelude.{Result, Ok, Err}
use Prim.Native.Nat.{ℕ}
use Rattle.values.specs.declared.Fault.{Fault}
use Rattle.values.specs.declared.Outcome.{Outcome}
use Rattle.values.specs.declared.Outcome.TheVariants.{Stopped}
use Rattle.memory.specs.Cells.{at_position}

pub position-has : (H : Outcome → Type 0) (cell : ℕ → Outcome) → ((i : ℕ) → H (cell i)) → ((f : Fault) → H (Stopped f))
    → (p : (Result ℕ Fault)) → H (at_position cell p)
position-has H cell each fault (Ok i) = each i
position-has H cell each fault (Err f) = fault f
