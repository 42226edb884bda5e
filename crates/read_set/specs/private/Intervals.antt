-- The cells that an instruction reads as an interval of numbers.
use Rattle.std.specs.Prelude.{◌≡◌, Bool, ◌&&◌, cond, ℕ, ◌+◌, ◌<◌, ltb, leb}
use Rattle.memory.specs.declared.Bank.{Bank}
use Rattle.memory.specs.Layout.{layout_of}
use Rattle.totals.specs.Totals.{good_range}
use Rattle.code.specs.declared.Instr.{Instr}
use Rattle.code.specs.Instructions.{ranging}
use Rattle.read_set.specs.declared.Interval.{Interval}
use Rattle.read_set.specs.Cells.{Cells, cell_range, instr_cells, first_number, cell_count, cell_number}

-- one of so many numbers from the first on
abbrev pub in_interval : ℕ → ℕ → ℕ → Bool
in_interval first count k = leb first k && ltb k (first + count)

abbrev pub empty : Interval
empty = record { first = 0; count = 0 }

abbrev pub within : Bank → ℕ → ℕ → Interval
within b i n = cond (good_range b i n) (record { first = first_number b + i; count = n }) empty

-- the interval has the numbers of a set's cells
pub record Numbers (f : Cells) (r : Interval) : Type 0 where
  pub inside : r.first < cell_count
  pub numbers : (b : Bank) (j : ℕ) → j < (layout_of b).elements → f b j ≡ in_interval r.first r.count (cell_number b j)

abbrev pub Reads : Instr → Interval → Type 0
Reads i r = Numbers (instr_cells i) r

-- of an instruction over the range of a word, whatever it does with the cells
pub record RangeReads (w : ℕ) (r : Interval) : Type 0 where
  pub reads : (f : Bank → ℕ → ℕ → Instr) → ((b : Bank) (i n : ℕ) (c : Bank) (j : ℕ) → instr_cells (f b i n) c j ≡ cell_range b i n c j) → Reads (ranging f w) r
