-- The binary digits of a number, the lowest first (paper 02, Ask 9: "lowest bit first").
use Rattle.std.specs.Prelude.{Bool, true, false, ℕ, zero, suc, ◌+◌, ◌*◌, ◌/◌, ◌%◌}

-- the digit k
abbrev pub bit : ℕ → ℕ → ℕ
bit x zero = x % 2
bit x (suc k) = bit (x / 2) k

-- the number with d in place of its digit k: "Writing one C bit keeps its seven neighbours."
abbrev pub with_bit : ℕ → ℕ → ℕ → ℕ
with_bit x zero d = x / 2 * 2 + d
with_bit x (suc k) d = with_bit (x / 2) k d * 2 + x % 2

-- the digit that says whether a bit is on
abbrev pub digit_of : Bool → ℕ
digit_of true = 1
digit_of false = 0
