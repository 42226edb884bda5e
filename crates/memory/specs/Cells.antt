-- Reading a cell (paper 01; of its image "any non-zero byte reads 1", since Ask 9 a bit is 0 or 1): "V0-V255 unsigned 16; N0-N255 signed 16; D0-D255 signed
-- 32; R0-R255 singles"; "Reading an R cell that holds an infinity or NaN is 13." An element that is not there is 14.
use Rattle.std.specs.Prelude.{Bool, not, cond, List, ℕ, eqb, ℤ, pos, Float, Result, Ok, Err}
use Rattle.std.specs.Float.Ieee as Ieee
use Rattle.std.specs.Float.{nan, inf, fin, binary32}
use Rattle.values.specs.declared.Kind.{Kind}
use Rattle.values.specs.declared.Kind.TheVariants as K
use Rattle.values.specs.declared.Value.{Value}
use Rattle.values.specs.declared.Value.TheVariants.{Int, Real}
use Rattle.values.specs.declared.Fault.TheVariants.{OutOfRange, IndexError}
use Rattle.values.specs.declared.Outcome.{Outcome}
use Rattle.values.specs.declared.Outcome.TheVariants.{Done, Stopped}
use Rattle.values.specs.Patterns.{signed_of}
use Rattle.operators.specs.Operators.{index_rule}
use Rattle.operators.specs.Kinds.{is_int}
use Rattle.memory.specs.declared.Bank.{Bank}
use Rattle.memory.specs.declared.Bank.TheVariants.{X, C, «V», N, D, R}
use Rattle.memory.specs.Layout.{layout_of, ImageLayout, packed, has_cell_in}
use Rattle.values.specs.declared.Fault.{Fault}

-- "Bits, V, N, D and plain numerals are integers."
abbrev pub bank_kind : Bank → Kind
bank_kind X = K.Int
bank_kind C = K.Int
bank_kind «V» = K.Int
bank_kind N = K.Int
bank_kind D = K.Int
bank_kind R = K.Real

-- "no R bank" (paper 02, Ask 12)
abbrev pub real_bank : Bank → Bool
real_bank b = not (is_int (bank_kind b))

abbrev pub bit_of : ℕ → ℤ
bit_of n = cond (eqb n 0) (pos 0) (pos 1)

-- a finite single, or 13
abbrev pub finite_or_fault : Float → Outcome
finite_or_fault nan = Stopped OutOfRange
finite_or_fault (inf s) = Stopped OutOfRange
finite_or_fault (fin s m e) = Done (Real (fin s m e))

abbrev pub real_cell : ℕ → Outcome
real_cell n = finite_or_fault (Ieee.of_bits binary32 n)

-- what a bank reads in the number that a cell holds
abbrev pub cell_value : Bank → ℕ → Outcome
cell_value X n = Done (Int (bit_of n))
cell_value C n = Done (Int (bit_of n))
cell_value «V» n = Done (Int (pos n))
cell_value N n = Done (Int (signed_of 16 n))
cell_value D n = Done (Int (signed_of 32 n))
cell_value R n = real_cell n

-- the element of a bank that an index names
abbrev pub position_rule : Bank → Value → Result ℕ Fault
position_rule b v = index_rule (layout_of b).elements v

-- what reads a bank's cells, at a position; without one, the index's fault
abbrev pub at_position : (ℕ → Outcome) → Result ℕ Fault → Outcome
at_position cell (Ok i) = cell i
at_position cell (Err f) = Stopped f

module _ (F : ImageLayout) where
  abbrev pub read_in : List ℕ → Bank → ℕ → Outcome
  read_in s b i = cond (has_cell_in F s b i) (cell_value b (F.get s b i)) (Stopped IndexError)

  abbrev pub indexed_in : List ℕ → Bank → Value → Outcome
  indexed_in s b v = at_position (read_in s b) (position_rule b v)

-- of the box's image
abbrev pub read_rule : List ℕ → Bank → ℕ → Outcome
read_rule s b i = read_in packed s b i

abbrev pub indexed_rule : List ℕ → Bank → Value → Outcome
indexed_rule s b v = indexed_in packed s b v
