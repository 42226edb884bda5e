-- Which cells code reads (paper 02, Ask 11): "every cell named, every cell of a range, and the whole bank for an index, in memory order, each once". Code
-- behind a jump counts, whether or not it would run: the list is of the code, not of one run. The tick is no cell.
use Rattle.std.specs.Prelude.{Bool, false, ◌&&◌, ◌||◌, cond, List, [], ◌∷◌, ◌++◌, ℕ, zero, suc, ◌+◌, eqb, ltb, leb}
use Rattle.memory.specs.declared.Bank.{Bank}
use Rattle.memory.specs.declared.Bank.TheVariants.{X, C, «V», N, D, R}
use Rattle.memory.specs.Layout.{layout_of}
use Rattle.memory.specs.Numbers.{bank_number, banks}
use Rattle.code.specs.declared.Instr.{Instr}
use Rattle.code.specs.declared.Instr.TheVariants.{PushInt, PushReal, Load, LoadIndexed, Unary, Binary, Jump, JumpIf, Tick, Since, Total, Match, Unknown}
use Rattle.code.specs.Instructions.{instructions}

-- a set of cells is its test. What it says of elements that a bank lacks does not matter: `cell_list` asks for those that exist
abbrev pub Cells : Type 0
Cells = Bank → ℕ → Bool

abbrev pub nothing : Cells
nothing b i = false

abbrev pub same_bank : Bank → Bank → Bool
same_bank b c = eqb (bank_number b) (bank_number c)

abbrev pub one_cell : Bank → ℕ → Cells
one_cell b i c j = same_bank b c && eqb i j

-- n cells from i on
abbrev pub cell_range : Bank → ℕ → ℕ → Cells
cell_range b i n c j = same_bank b c && (leb i j && ltb j (i + n))

abbrev pub whole_bank : Bank → Cells
whole_bank b c j = same_bank b c

abbrev pub union : Cells → Cells → Cells
union f g b i = f b i || g b i

-- ---- of code
abbrev pub instr_cells : Instr → Cells
instr_cells (PushInt z) = nothing
instr_cells (PushReal x) = nothing
instr_cells (Load b i) = one_cell b i
instr_cells (LoadIndexed b) = whole_bank b
instr_cells (Unary o) = nothing
instr_cells (Binary o) = nothing
instr_cells (Jump d) = nothing
instr_cells (JumpIf t d) = nothing
instr_cells Tick = nothing
instr_cells Since = nothing
instr_cells (Total o b i n) = cell_range b i n
instr_cells (Match o b i n) = cell_range b i n
instr_cells Unknown = nothing

abbrev pub code_cells : List Instr → Cells
code_cells [] = nothing
code_cells (i ∷ c) = union (instr_cells i) (code_cells c)

-- ---- as a list: "in memory order, each once"
pub record Cell : Type 0 where
  pub bank : Bank
  pub element : ℕ

-- those of the cells i, i + 1, .. of a bank, n of them, that pass the test
unfoldable pub cells_from : Cells → Bank → ℕ → ℕ → List Cell
cells_from f b i zero = []
cells_from f b i (suc n) = cond (f b i) (record { bank = b; element = i } ∷ cells_from f b (suc i) n) (cells_from f b (suc i) n)

abbrev pub cells_of : Cells → List Bank → List Cell
cells_of f [] = []
cells_of f (b ∷ bs) = cells_from f b 0 (layout_of b).elements ++ cells_of f bs

abbrev pub cell_list : Cells → List Cell
cell_list f = cells_of f banks

-- ---- by number from 0, in memory order
abbrev pub first_number : Bank → ℕ
first_number X = 0
first_number C = 64
first_number «V» = 128
first_number N = 384
first_number D = 640
first_number R = 896

-- how many cells there are
abbrev pub cell_count : ℕ
cell_count = 1152

abbrev pub cell_number : Bank → ℕ → ℕ
cell_number b i = first_number b + i

abbrev pub cell_numbers : List Cell → List ℕ
cell_numbers [] = []
cell_numbers (c ∷ cs) = cell_number c.bank c.element ∷ cell_numbers cs

-- what the first n instructions of a code and the first k of an index code read
abbrev pub read_by : List ℕ → ℕ → List ℕ → ℕ → List Cell
read_by code n index k = cell_list (union (code_cells (instructions code n)) (code_cells (instructions index k)))
