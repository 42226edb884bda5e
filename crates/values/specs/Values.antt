-- Paper 01, "Values and kinds": "A value is either a 32-bit integer or a single." The types themselves are the enums of src/lib.rt.
use Rattle.std.specs.Prelude.{ℕ}
use Rattle.values.specs.declared.Kind.{Kind}
use Rattle.values.specs.declared.Kind.TheVariants as K
use Rattle.values.specs.declared.Value.{Value}
use Rattle.values.specs.declared.Value.TheVariants.{Int, Real}
use Rattle.values.specs.declared.Fault.{Fault}
use Rattle.values.specs.declared.Fault.TheVariants.{DividedByZero, Overflow, OutOfRange, IndexError}

abbrev pub kind_of : Value → Kind
kind_of (Int z) = K.Int
kind_of (Real x) = K.Real

-- "The list of answers": 11 to 14
abbrev pub fault_number : Fault → ℕ
fault_number DividedByZero = 11
fault_number Overflow = 12
fault_number OutOfRange = 13
fault_number IndexError = 14
