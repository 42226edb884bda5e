-- The store (paper 01): "to D the integer; to V or N its low 16 bits; to C byte 1 if it is non-zero (0.5 is ON), else 0; to R promoted; a real to V, N or D
-- truncated first", 13 where it lies outside 32 bits. "11 to 14 set their flag's byte to 1 and change nothing else in memory".
-- An infinite or NaN real, which no formula gives, is 13 into any cell. X is stored to as C is, though no target names it. An image of another size
-- stays as it is.
use Rattle.std.specs.Prelude.{Bool, true, false, cond, List, ℕ, eqb, length, set, Option, Result, Some, None, Ok, Err, ⊤, ℤ}
use Rattle.std.specs.Float.Ieee as Ieee
use Rattle.std.specs.Float.{binary32}
use Rattle.std.specs.Float.Ieee.Scale.{finite}
use Rattle.values.specs.declared.Value.{Value}
use Rattle.values.specs.declared.Value.TheVariants.{Int, Real}
use Rattle.values.specs.declared.Fault.{Fault}
use Rattle.values.specs.declared.Fault.TheVariants.{OutOfRange, IndexError}
use Rattle.values.specs.Patterns.{low_bits}
use Rattle.values.specs.Convert.{truncated}
use Rattle.operators.specs.Operators.{as_real, truth_rule}
use Rattle.memory.specs.declared.Bank.{Bank}
use Rattle.memory.specs.declared.Bank.TheVariants.{X, C, «V», N, D, R}
use Rattle.memory.specs.Layout.{ImageLayout, packed, has_cell_in}

abbrev pub bool_pattern : Bool → ℕ
bool_pattern true = 1
bool_pattern false = 0

-- the low k bits of an integer, or 13
abbrev pub low_cut : ℕ → Option ℤ → Result ℕ Fault
low_cut k (Some z) = Ok (low_bits k z)
low_cut k None = Err OutOfRange

-- "a real to V, N or D truncated first"
abbrev pub integer_of : Value → Option ℤ
integer_of (Int z) = Some z
integer_of (Real x) = truncated x

-- the pattern that a bank holds of a value that is finite
abbrev pub encode_finite_cell : Bank → Value → Result ℕ Fault
encode_finite_cell X v = Ok (bool_pattern (truth_rule v))
encode_finite_cell C v = Ok (bool_pattern (truth_rule v))
encode_finite_cell «V» v = low_cut 16 (integer_of v)
encode_finite_cell N v = low_cut 16 (integer_of v)
encode_finite_cell D v = low_cut 32 (integer_of v)
encode_finite_cell R v = Ok (Ieee.to_bits binary32 (as_real v))

abbrev pub is_finite : Value → Bool
is_finite (Int z) = true
is_finite (Real x) = finite x

abbrev pub encode_cell : Bank → Value → Result ℕ Fault
encode_cell b v = cond (is_finite v) (encode_finite_cell b v) (Err OutOfRange)

abbrev pub answer_of : Result ℕ Fault → Result ⊤ Fault
answer_of (Ok p) = Ok tt
answer_of (Err f) = Err f

module _ (F : ImageLayout) where
  -- the flag's byte is 1, every other byte as it was
  abbrev pub with_flag_in : List ℕ → Fault → List ℕ
  with_flag_in s f = cond (eqb (length s) F.size) (set s (F.flag f) 1) s

  abbrev pub write_in : List ℕ → Bank → ℕ → Result ℕ Fault → List ℕ
  write_in s b i (Ok p) = F.put s b i p
  write_in s b i (Err f) = with_flag_in s f

  abbrev pub store_in : List ℕ → Bank → ℕ → Value → List ℕ
  store_in s b i v = cond (has_cell_in F s b i) (write_in s b i (encode_cell b v)) (with_flag_in s IndexError)

  abbrev pub store_answer_in : List ℕ → Bank → ℕ → Value → Result ⊤ Fault
  store_answer_in s b i v = cond (has_cell_in F s b i) (answer_of (encode_cell b v)) (Err IndexError)

-- of the box's image
abbrev pub with_flag : List ℕ → Fault → List ℕ
with_flag s f = with_flag_in packed s f

abbrev pub write_cell : List ℕ → Bank → ℕ → Result ℕ Fault → List ℕ
write_cell s b i x = write_in packed s b i x

abbrev pub store_image : List ℕ → Bank → ℕ → Value → List ℕ
store_image s b i v = store_in packed s b i v

abbrev pub store_answer : List ℕ → Bank → ℕ → Value → Result ⊤ Fault
store_answer s b i v = store_answer_in packed s b i v
