-- What a formula, and an instruction, can read: the memory, cell by cell, and the tick at which it is read. A definition over an environment holds for
-- every memory and tick; nothing else is read, so two environments with the same cells and tick are one to it. No rule of paper 01 reads the tick.
use Rattle.std.specs.Prelude.{List, ℕ}
use Rattle.values.specs.declared.Value.{Value}
use Rattle.values.specs.declared.Outcome.{Outcome}
use Rattle.memory.specs.declared.Bank.{Bank}
use Rattle.memory.specs.Layout.{ImageLayout, packed}
use Rattle.memory.specs.Cells.{position_rule, at_position, read_in}

pub record Environment : Type 0 where
  pub cell : Bank → ℕ → Outcome
  pub tick : ℕ

-- the cell of a bank that a value names
abbrev pub indexed_cell : Environment → Bank → Value → Outcome
indexed_cell E b v = at_position (E.cell b) (position_rule b v)

-- an image of any layout, at a tick
abbrev pub memory_in : ImageLayout → ℕ → List ℕ → Environment
memory_in F t s = record { cell = read_in F s; tick = t }

abbrev pub memory_at : ℕ → List ℕ → Environment
memory_at t s = memory_in packed t s

-- what paper 01's operations read
abbrev pub memory_of : List ℕ → Environment
memory_of s = memory_at 0 s
