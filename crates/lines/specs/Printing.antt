-- What is printed of a cell (paper 01): "Integers print in signed decimal"; R "as its pattern", in the form `0x437A8000`.
use Rattle.std.specs.Prelude.{cond, List, [], ◌∷◌, ℕ, zero, suc, ◌+◌, ◌-◌, ◌/◌, ◌%◌, ltb, ℤ, pos, negsuc}
use Rattle.values.specs.Patterns.{signed_of}
use Rattle.memory.specs.declared.Bank.{Bank}
use Rattle.memory.specs.declared.Bank.TheVariants.{X, C, «V», N, D, R}
use Rattle.memory.specs.Cells.{bit_of}
use Rattle.words.specs.Ascii.{byte}

-- a digit's byte: `0` to `9`, then `A` to `F`
abbrev pub numeral_byte : ℕ → ℕ
numeral_byte d = cond (ltb d 10) (byte "0" + d) (byte "A" - 10 + d)

-- the k lowest digits of n in a base, before the bytes cs
abbrev pub digits_before : ℕ → ℕ → ℕ → List ℕ → List ℕ
digits_before base zero n cs = cs
digits_before base (suc k) n cs = digits_before base k (n / base) (numeral_byte (n % base) ∷ cs)

-- the k lowest digits of n, the highest first
abbrev pub low_digits : ℕ → ℕ → ℕ → List ℕ
low_digits base k n = digits_before base k n []

-- how many decimal digits n has without leading zeros; each step takes one away, so n steps are enough
abbrev pub width_from : ℕ → ℕ → ℕ
width_from zero n = 1
width_from (suc f) n = cond (ltb n 10) 1 (suc (width_from f (n / 10)))

abbrev pub width_of : ℕ → ℕ
width_of n = width_from n n

-- a number in decimal
abbrev pub decimal_text : ℕ → List ℕ
decimal_text n = low_digits 10 (width_of n) n

-- "Integers print in signed decimal": a `-` before one below zero
abbrev pub signed_text : ℤ → List ℕ
signed_text (pos n) = decimal_text n
signed_text (negsuc n) = byte "-" ∷ decimal_text (suc n)

-- what a bank prints of the number of a cell's bytes: the integer that the cell reads, for R `0x` and eight digits of the pattern
abbrev pub cell_text : Bank → ℕ → List ℕ
cell_text X n = signed_text (bit_of n)
cell_text C n = signed_text (bit_of n)
cell_text «V» n = signed_text (pos n)
cell_text N n = signed_text (signed_of 16 n)
cell_text D n = signed_text (signed_of 32 n)
cell_text R n = byte "0" ∷ byte "x" ∷ low_digits 16 8 n

-- the bank letter's byte
abbrev pub letter_byte : Bank → ℕ
letter_byte X = byte "X"
letter_byte C = byte "C"
letter_byte «V» = byte "V"
letter_byte N = byte "N"
letter_byte D = byte "D"
letter_byte R = byte "R"

-- "a bank letter and a decimal number without a leading zero"
abbrev pub cell_name : Bank → ℕ → List ℕ
cell_name b i = letter_byte b ∷ decimal_text i
