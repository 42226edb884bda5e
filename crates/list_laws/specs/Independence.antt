-- When two formulas may change places (paper 02, Ask 14): "if their targets share no cell and neither reads the other's target by the list of Ask 11".
use Rattle.std.specs.Prelude.{◌≡◌, true, List, ℕ, ◌<◌, length}
use Rattle.memory.specs.declared.Bank.{Bank}
use Rattle.memory.specs.Layout.{layout_of}
use Rattle.grammar.specs.Tree.{Tree}
use Rattle.text.specs.Targets.{Target, to_cell, to_indexed, no_target}
use Rattle.read_set.specs.Cells.{Cells, nothing, one_cell, whole_bank}
use Rattle.operations.specs.Operations.{Request, stores, stops}
use Rattle.read_answers.specs.Answers.{request_cells}
use Rattle.list_laws.specs.Running.{Buffers}

-- "An indexed target stands for its whole bank", whether or not its index faults
abbrev pub target_writes : Target → Cells
target_writes (to_cell b i) = one_cell b i
target_writes (to_indexed b t) = whole_bank b
target_writes no_target = nothing

-- a refused formula stores nothing
abbrev pub write_set : Request → Cells
write_set (stores g t code index) = target_writes g
write_set (stops a p) = nothing

-- "the list of Ask 11", with the target's own index
abbrev pub read_set : Request → Cells
read_set q = request_cells q

-- no cell is in both
abbrev pub Disjoint : Cells → Cells → Type 0
Disjoint f g = (b : Bank) (i : ℕ) → i < (layout_of b).elements → f b i ≡ true → g b i ≡ true → ⊥

-- "their targets share no cell and neither reads the other's target". A formula may read its own
pub record Independent (p q : Request) : Type 0 where
  pub targets : Disjoint (write_set p) (write_set q)
  pub reads_first : Disjoint (read_set p) (write_set q)
  pub reads_second : Disjoint (read_set q) (write_set p)

-- ---- what a request is depends on the texts and on lengths, which no run changes
pub record SameLengths (r s : Buffers) : Type 0 where
  pub memory : length r.memory ≡ length s.memory
  pub code : length r.code ≡ length s.code
  pub index : length r.index ≡ length s.index

-- the same target and tree, or the same refusal, whatever bytes are written
pub data SameRequest : Request → Request → Type 0 where
  both_store : (g : Target) (t : Tree) (code index code' index' : List ℕ) → SameRequest (stores g t code index) (stores g t code' index')
  both_stop : (a p : ℕ) → SameRequest (stops a p) (stops a p)
