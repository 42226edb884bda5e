-- Cells by number, as they are printed.
use Rattle.std.specs.Prelude.{cond, List, [], ◌∷◌, ◌++◌, ℕ, ◌-◌, ◌<◌, ltb, length, get_or}
use Rattle.words.specs.Ascii.{ascii}
use Rattle.memory.specs.declared.Bank.{Bank}
use Rattle.memory.specs.declared.Bank.TheVariants.{X, C, «V», N, D, R}
use Rattle.lines.specs.Printing.{cell_name}
use Rattle.read_set.specs.Cells.{first_number, cell_count}

-- the bank of a cell's number
abbrev pub numbered_bank : ℕ → Bank
numbered_bank n =
    cond (ltb n (first_number C)) X
    (cond (ltb n (first_number «V»)) C
    (cond (ltb n (first_number N)) «V»
    (cond (ltb n (first_number D)) N
    (cond (ltb n (first_number R)) D R))))

-- the name of a cell's number, with its line's end
unfoldable pub number_text : ℕ → List ℕ
number_text n = cell_name (numbered_bank n) (n - first_number (numbered_bank n)) ++ ascii "\n"

unfoldable pub number_lines : List ℕ → List ℕ
number_lines [] = []
number_lines (n ∷ ns) = number_text n ++ number_lines ns

-- each is the number of a cell
pub record CellNumbers (list : List ℕ) : Type 0 where
  pub below : (k : ℕ) → k < length list → get_or list k 0 < cell_count
