-- What holds of a cell's value in text, for whoever reads Forms and Printing: proofs/Laws.antt proves this record.
use Rattle.std.specs.Prelude.{◌≡◌, List, ℕ, ◌<◌, Some}
use Rattle.memory.specs.declared.Bank.{Bank}
use Rattle.memory.specs.declared.Bank.TheVariants.{X, C, «V», N, D, R}
use Rattle.lines.specs.Forms.{cell_pattern}
use Rattle.lines.specs.Printing.{cell_text}

-- how many patterns a cell of a bank can be given
abbrev pub patterns : Bank → ℕ
patterns X = 2
patterns C = 2
patterns «V» = 65536
patterns N = 65536
patterns D = 4294967296
patterns R = 4294967296

pub record FormLaws : Type 0 where
  -- what is printed of a cell is read back as the same pattern
  pub back : (b : Bank) (n : ℕ) → n < patterns b → cell_pattern b (cell_text b n) ≡ Some n
  -- an integer is read in no other form than the printed one
  pub only : (b : Bank) (cs : List ℕ) (n : ℕ) → (b ≡ R → ⊥) → cell_pattern b cs ≡ Some n → cs ≡ cell_text b n
  -- what is read is a pattern that the cell can be given
  pub below : (b : Bank) (cs : List ℕ) (n : ℕ) → cell_pattern b cs ≡ Some n → n < patterns b
