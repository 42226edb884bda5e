-- Marks: a word for each number, how many numbers are reached from it on.
use Rattle.std.specs.Prelude.{◌≡◌, Bool, ◌||◌, cond, List, [], ◌∷◌, ℕ, zero, suc, ◌+◌, ◌<◌, ltb, length, get_or, set}
use Rattle.memory.specs.declared.Bank.{Bank}
use Rattle.memory.specs.Layout.{layout_of}
use Rattle.code.specs.declared.Instr.{Instr}
use Rattle.read_set.specs.Cells.{code_cells, cell_count, cell_number}

abbrev pub lesser : ℕ → ℕ → ℕ
lesser a b = cond (ltb a b) a b

abbrev pub larger : ℕ → ℕ → ℕ
larger a b = cond (ltb a b) b a

-- the end of what is reached from the first k numbers on
unfoldable pub reached_to : List ℕ → ℕ → ℕ
reached_to rs zero = 0
reached_to rs (suc k) = larger (reached_to rs k) (k + get_or rs k 0)

abbrev pub is_reached : List ℕ → ℕ → Bool
is_reached rs k = ltb k (reached_to rs (suc k))

abbrev pub extended : List ℕ → ℕ → ℕ → List ℕ
extended rs first count = cond (ltb (get_or rs first 0) count) (set rs first count) rs

-- those of the numbers k, k + 1, .., n of them, that pass a test
unfoldable pub passing : (ℕ → Bool) → ℕ → ℕ → List ℕ
passing t k zero = []
passing t k (suc n) = cond (t k) (k ∷ passing t (suc k) n) (passing t (suc k) n)

abbrev pub reached_numbers : List ℕ → List ℕ
reached_numbers rs = passing (is_reached rs) 0 cell_count

-- code's cells are reached besides what was
pub record Marks (c : List Instr) (before after : List ℕ) : Type 0 where
  pub long : length after ≡ cell_count
  pub marked : (b : Bank) (j : ℕ) → j < (layout_of b).elements → is_reached after (cell_number b j) ≡ (is_reached before (cell_number b j) || code_cells c b j)
