-- Integers as patterns of binary digits (paper 01): the bitwise operators, and "Shift counts 0 to 31, else 13. `<<` keeps the low 32 bits,
-- `>>` copies the sign, `>>>` shifts in zeros." Patterns are given at every width k, since memory has cells of 16 bits too.
use Rattle.std.specs.Prelude.{ℕ, zero, suc, ◌+◌, ◌-◌, ◌*◌, ◌/◌, ◌%◌, ◌^◌, min, max, cond, ℤ, pos, negsuc, ◌-ℤ◌, nat_lt, unsigned_abs}
use Rattle.std.specs.Int.Signed.{shr_z}
use Rattle.values.specs.declared.Value.TheVariants.{Int}
use Rattle.values.specs.declared.Fault.TheVariants.{OutOfRange}
use Rattle.values.specs.declared.Outcome.{Outcome}
use Rattle.values.specs.declared.Outcome.TheVariants.{Done, Stopped}
use Rattle.values.specs.declared.BitOp.{BitOp}
use Rattle.values.specs.declared.BitOp.TheVariants.{And, Or, Xor}
use Rattle.values.specs.declared.ShiftOp.{ShiftOp}
use Rattle.values.specs.declared.ShiftOp.TheVariants.{Left, Right, RightZero}
use Rattle.values.specs.Integers.{between}

-- the low k bits of z, in two's complement: z modulo 2 ^ k
abbrev pub low_bits : ℕ → ℤ → ℕ
low_bits k (pos n) = n % 2 ^ k
low_bits k (negsuc n) = 2 ^ k - suc (n % 2 ^ k)

-- the integer of a k-bit pattern: its top bit counts as -2 ^ (k - 1)
abbrev pub signed_of : ℕ → ℕ → ℤ
signed_of k n = cond (nat_lt n (2 ^ (k - 1))) (pos n) (negsuc (2 ^ k - suc n))

-- the binary digit of n at place i
abbrev pub digit : ℕ → ℕ → ℕ
digit n i = n / 2 ^ i % 2

-- the number whose digits below place k are given
abbrev pub from_digits : ℕ → (ℕ → ℕ) → ℕ
from_digits zero d = 0
from_digits (suc k) d = from_digits k d + d k * 2 ^ k

-- one digit of the result from one of each operand
abbrev pub digit_of : BitOp → ℕ → ℕ → ℕ
digit_of And a b = min a b
digit_of Or a b = max a b
digit_of Xor a b = (a + b) % 2

abbrev pub bitwise_int : BitOp → ℤ → ℤ → ℤ
bitwise_int o a b = signed_of 32 (from_digits 32 (λ i. digit_of o (digit (low_bits 32 a) i) (digit (low_bits 32 b) i)))

abbrev pub complement_int : ℤ → ℤ
complement_int a = signed_of 32 (from_digits 32 (λ i. 1 - digit (low_bits 32 a) i))

-- `shr_z z m` is z / m, rounded down, which is what a shift that copies the sign gives
abbrev pub shifted : ShiftOp → ℤ → ℕ → ℤ
shifted Left a s = signed_of 32 (low_bits 32 a * 2 ^ s % 2 ^ 32)
shifted Right a s = shr_z a (2 ^ s)
shifted RightZero a s = signed_of 32 (low_bits 32 a / 2 ^ s)

abbrev pub shift_int : ShiftOp → ℤ → ℤ → Outcome
shift_int o a s = cond (between (pos 0) (pos 31) s) (Done (Int (shifted o a (unsigned_abs s)))) (Stopped OutOfRange)

-- "SINCE(x), the tick less x around the end of the 32-bit counter" (paper 02, Ask 13): the difference modulo 2 ^ 32, read with its sign
abbrev pub since_int : ℕ → ℤ → ℤ
since_int t x = signed_of 32 (low_bits 32 (pos t -ℤ x))
