-- Nothing but the listed cells matters (paper 02, Ask 11): "two memories of the right size that agree on the listed cells give the same value, answer and
-- count, whatever the rest holds"; "The clock of Ask 13 .. is a further input that must agree." Over any environment, and over an image of any layout.
-- proofs/Laws.antt proves the record.
use Rattle.std.specs.Prelude.{◌≡◌, ◌↔◌, true, ℕ, suc, ◌≤◌, ◌<◌, length, take}
use mathlib.Core.List.{List, [], ◌∷◌, Memᴰ}
use Rattle.std.proofs.lemmas.List.Edits.{sets}
use Rattle.memory.specs.declared.Bank.{Bank}
use Rattle.memory.specs.Layout.{ImageLayout, layout_of}
use Rattle.memory.specs.Cells.{read_in}
use Rattle.memory.specs.Environment.{Environment, memory_in}
use Rattle.grammar.specs.Tree.{Tree}
use Rattle.grammar.specs.Eval.{eval}
use Rattle.code.specs.declared.Instr.{Instr}
use Rattle.machine.specs.Machine.{exec}
use Rattle.tree_code.specs.Code.{code_of}
use Rattle.read_set.specs.Cells.{Cells, code_cells, Cell, cell_list, cell_count, cell_numbers}
use Rattle.read_laws.specs.Formulas.{tree_cells}

-- the cells of the set read alike, and the tick is one
pub record AlikeOn (f : Cells) (E F : Environment) : Type 0 where
  pub cells : (b : Bank) (i : ℕ) → f b i ≡ true → E.cell b i ≡ F.cell b i
  pub tick : E.tick ≡ F.tick

-- the memories are of the right size, and the cells of the set read alike in both: two patterns of NaN, or two bytes of a bit that are not 0, agree
pub record AgreeOn (L : ImageLayout) (f : Cells) (m n : List ℕ) : Type 0 where
  pub size : length m ≡ L.size
  pub size' : length n ≡ L.size
  pub cells : (b : Bank) (i : ℕ) → f b i ≡ true → read_in L m b i ≡ read_in L n b i

-- the cell stands in the list
abbrev pub Listed : Bank → ℕ → List Cell → Type 0
Listed b i cs = Memᴰ (record { bank = b; element = i }) cs

-- the same of the cells that stand in a list: "two memories of the right size that agree on the listed cells"
pub record AgreeOnListed (L : ImageLayout) (cs : List Cell) (m n : List ℕ) : Type 0 where
  pub size : length m ≡ L.size
  pub size' : length n ≡ L.size
  pub cells : (b : Bank) (i : ℕ) → Listed b i cs → read_in L m b i ≡ read_in L n b i

-- each number is above those before it; the first is not below k
pub data RisingFrom : ℕ → List ℕ → Type 0 where
  end : (k : ℕ) → RisingFrom k []
  next : (k n : ℕ) (ns : List ℕ) → k ≤ n → RisingFrom (suc n) ns → RisingFrom k (n ∷ ns)

pub record ReadTheorems : Type 0 where
  -- the value or fault of a tree; the end and the count of any code
  pub value : (E F : Environment) (t : Tree) → AlikeOn (tree_cells t) E F → eval E t ≡ eval F t
  pub run : (E F : Environment) (c : List Instr) → AlikeOn (code_cells c) E F → exec E c 0 [] ≡ exec F c 0 []
  -- a formula's code reads just the formula's cells
  pub code : (t : Tree) (b : Bank) (i : ℕ) → code_cells (code_of t) b i ≡ tree_cells t b i
  -- so a run of it has one end and one count
  pub formula-run : (E F : Environment) (t : Tree) → AlikeOn (tree_cells t) E F → exec E (code_of t) 0 [] ≡ exec F (code_of t) 0 []
  -- two memories that agree, at one tick, are two such environments
  pub memories : (L : ImageLayout) (tick : ℕ) (f : Cells) (m n : List ℕ) → AgreeOn L f m n → AlikeOn f (memory_in L tick m) (memory_in L tick n)
  -- so the value of a formula, and the end and the count of a run, are the same on both
  pub same_value : (L : ImageLayout) (tick : ℕ) (t : Tree) (m n : List ℕ) → AgreeOn L (tree_cells t) m n
      → eval (memory_in L tick m) t ≡ eval (memory_in L tick n) t
  pub same_run : (L : ImageLayout) (tick : ℕ) (c : List Instr) (m n : List ℕ) → AgreeOn L (code_cells c) m n
      → exec (memory_in L tick m) c 0 [] ≡ exec (memory_in L tick n) c 0 []
  -- they agree where the listed cells hold the same numbers
  pub bytes : (L : ImageLayout) (f : Cells) (m n : List ℕ) → length m ≡ L.size → length n ≡ L.size
      → ((b : Bank) (i : ℕ) → f b i ≡ true → i < (layout_of b).elements → L.get m b i ≡ L.get n b i) → AgreeOn L f m n
  -- the list has just the cells of the set, "in memory order, each once"
  pub listed : (f : Cells) (b : Bank) (i : ℕ) → Listed b i (cell_list f) ↔ ((f b i ≡ true) × (i < (layout_of b).elements))
  pub rising : (f : Cells) → RisingFrom 0 (cell_numbers (cell_list f))
  -- to agree on the cells of the list is to agree on the set
  pub agree_listed : (L : ImageLayout) (f : Cells) (m n : List ℕ) → AgreeOnListed L (cell_list f) m n → AgreeOn L f m n
  -- one test, one list
  pub same_list : (f g : Cells) → ((b : Bank) (i : ℕ) → f b i ≡ g b i) → cell_list f ≡ cell_list g
  -- at most 1,152 cells stand in it, so with 1,152 places every list fits
  pub most : (f : Cells) → length (cell_list f) ≤ cell_count
  pub fits : (f : Cells) (list : List ℕ) → cell_count ≤ length list
      → take (length (cell_list f)) (sets list 0 (cell_numbers (cell_list f))) ≡ cell_numbers (cell_list f)
