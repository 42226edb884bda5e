-- Samples, by computing: texts that are easily misread, and what they are.
use Rattle.std.specs.Prelude.{Ok, Err}
use mathlib.Core.Path.{◌≡◌, refl}
use mathlib.Core.List.{[], ◌∷◌}
use lib.IntN.{pos, negsuc}
use lib.Ieee as Ieee
use lib.Ieee.{binary32}
use Rattle.values.specs.declared.Value.TheVariants.{Int, Real}
use Rattle.values.specs.declared.ChoiceOp.TheVariants.{Min}
use Rattle.values.specs.declared.CompareOp.TheVariants.{Eq}
use Rattle.literals.specs.Literals.{nearest_decimal}
use Rattle.memory.specs.declared.Bank.TheVariants.{D}
use Rattle.memory.specs.Names.{letter_bank, named_rule}
use Rattle.totals.specs.declared.TotalOp.TheVariants.{Choice}
use Rattle.totals.specs.declared.MatchOp.TheVariants.{Count}
use Rattle.tokens.specs.declared.Function.TheVariants.{Max, TickMs, Since, Total, Match}
use Rattle.tokens.specs.declared.Token.TheVariants.{Number, Cell, Letter, Name, Symbol}
use Rattle.words.specs.Ascii.{ascii}
use Rattle.tokens.specs.Numerals.{numeral_of, numeral_len}
use Rattle.tokens.specs.Words.{other_word, word_token}
use Rattle.tokens.specs.Scan.{Found, Wrong, lexeme_of, lexeme_at, tokens, wrong, scan_from, scan}

-- ---- numerals
-- `2147483647` is the largest decimal, `2147483648` is 5; `007` is 7
largest : numeral_of (50 ∷ 49 ∷ 52 ∷ 55 ∷ 52 ∷ 56 ∷ 51 ∷ 54 ∷ 52 ∷ 55 ∷ []) ≡ Ok (Number (Int (pos 2147483647)))
largest = refl

too_large : numeral_of (50 ∷ 49 ∷ 52 ∷ 55 ∷ 52 ∷ 56 ∷ 51 ∷ 54 ∷ 52 ∷ 56 ∷ []) ≡ Err 5
too_large = refl

zeros-first : numeral_of (48 ∷ 48 ∷ 55 ∷ []) ≡ Ok (Number (Int (pos 7)))
zeros-first = refl

-- `0x80000000` is the least integer, `0x012345678` is 5, `0x` and `0X1` are 4
least : numeral_of (48 ∷ 120 ∷ 56 ∷ 48 ∷ 48 ∷ 48 ∷ 48 ∷ 48 ∷ 48 ∷ 48 ∷ []) ≡ Ok (Number (Int (negsuc 2147483647)))
least = refl

nine-hex : numeral_of (48 ∷ 120 ∷ 48 ∷ 49 ∷ 50 ∷ 51 ∷ 52 ∷ 53 ∷ 54 ∷ 55 ∷ 56 ∷ []) ≡ Err 5
nine-hex = refl

no-hex : numeral_of (48 ∷ 120 ∷ []) ≡ Err 4
no-hex = refl

upper-x : numeral_of (48 ∷ 88 ∷ 49 ∷ []) ≡ Err 4
upper-x = refl

-- `0.5` has the pattern 0x3F000000; nine digits are good, ten are 5
half : numeral_of (ascii "0.5") ≡ Ok (Number (Real (nearest_decimal 5 (negsuc 0))))
half = refl

half-bits : Ieee.to_bits binary32 (nearest_decimal 5 (negsuc 0)) ≡ 0x3f00_0000
unfolding Ieee.to_bits Ieee.round
half-bits = refl

nine-digits : numeral_of (ascii "1.23456789") ≡ Ok (Number (Real (nearest_decimal 123456789 (negsuc 7))))
nine-digits = refl

ten-digits : numeral_of (ascii "1.234567890") ≡ Err 5
ten-digits = refl

-- `1E5` is real; an exponent may have leading zeros, and its range is judged even where the digits make 0
small : numeral_of (ascii "1.25E-4") ≡ Ok (Number (Real (nearest_decimal 125 (negsuc 5))))
small = refl

real-whole : numeral_of (ascii "1E5") ≡ Ok (Number (Real (nearest_decimal 1 (pos 5))))
real-whole = refl

zeros-too : numeral_of (ascii "1E00005") ≡ Ok (Number (Real (nearest_decimal 1 (pos 5))))
zeros-too = refl

zero-too-large : numeral_of (ascii "0E21") ≡ Err 5
zero-too-large = refl

-- E without digits is 4, however many stand before it
no_exponent : numeral_of (ascii "1234567890E") ≡ Err 4
no_exponent = refl

both-too-large : numeral_of (ascii "1234567890E99") ≡ Err 5
both-too-large = refl

no_part : numeral_of (49 ∷ 46 ∷ []) ≡ Err 4
no_part = refl

two-dots : numeral_of (49 ∷ 46 ∷ 50 ∷ 46 ∷ 51 ∷ []) ≡ Err 4
two-dots = refl

long-no-part : numeral_of (49 ∷ 50 ∷ 51 ∷ 52 ∷ 53 ∷ 54 ∷ 55 ∷ 56 ∷ 46 ∷ []) ≡ Err 4
long-no-part = refl

lower-e : numeral_of (ascii "1e5") ≡ Err 4
lower-e = refl

dot-before-e : numeral_of (ascii "1.E5") ≡ Err 4
dot-before-e = refl

dot-in-exponent : numeral_of (ascii "1E5.5") ≡ Err 4
dot-in-exponent = refl

two-exponents : numeral_of (ascii "1E5E5") ≡ Err 4
two-exponents = refl

-- the run goes on past the sign of an exponent, and past no other: `1E+5-3`, `1E5-3`, `0x1E-3`, `1E- 5`
signed-run : numeral_len (ascii "1E+5-3") ≡ 4
signed-run = refl

unsigned-run : numeral_len (ascii "1E5-3") ≡ 3
unsigned-run = refl

hex-run : numeral_len (ascii "0x1E-3") ≡ 4
hex-run = refl

open-run : numeral_len (ascii "1E- 5") ≡ 3
open-run = refl

-- ---- words
-- `MAX` is a function, `max` and `ABS2` are 6; `D` is a bank letter, `D255` a cell, `D256`, `D01` and `X64` are 6
function : word_token (77 ∷ 65 ∷ 88 ∷ []) ≡ Ok (Name Max)
unfolding word_token
function = refl

lower-case : word_token (109 ∷ 97 ∷ 120 ∷ []) ≡ Err 6
unfolding word_token other_word named_rule letter_bank
lower-case = refl

-- case counts in the two small letters too
tick : word_token (ascii "TICKms") ≡ Ok (Name TickMs)
unfolding word_token
tick = refl

upper-tick : word_token (ascii "TICKMS") ≡ Err 6
unfolding word_token other_word named_rule letter_bank
upper-tick = refl

since : word_token (ascii "SINCE") ≡ Ok (Name Since)
unfolding word_token
since = refl

-- `COUNTIF` alone, `COUNTIFEQ`, `MINR`
family : word_token (ascii "COUNTIF") ≡ Err 6
unfolding word_token other_word named_rule letter_bank
family = refl

count-equal : word_token (ascii "COUNTIFEQ") ≡ Ok (Name (Match (Count Eq)))
unfolding word_token
count-equal = refl

least-of-run : word_token (ascii "MINR") ≡ Ok (Name (Total (Choice Min)))
unfolding word_token
least-of-run = refl

longer : word_token (65 ∷ 66 ∷ 83 ∷ 50 ∷ []) ≡ Err 6
unfolding word_token other_word named_rule letter_bank
longer = refl

letter : word_token (68 ∷ []) ≡ Ok (Letter D)
unfolding word_token other_word letter_bank
letter = refl

cell : word_token (68 ∷ 50 ∷ 53 ∷ 53 ∷ []) ≡ Ok (Cell D 255)
unfolding word_token other_word named_rule letter_bank
cell = refl

beyond : word_token (68 ∷ 50 ∷ 53 ∷ 54 ∷ []) ≡ Err 6
unfolding word_token other_word named_rule letter_bank
beyond = refl

leading-zero : word_token (68 ∷ 48 ∷ 49 ∷ []) ≡ Err 6
unfolding word_token other_word named_rule letter_bank
leading-zero = refl

beyond-bits : word_token (88 ∷ 54 ∷ 52 ∷ []) ≡ Err 6
unfolding word_token other_word named_rule letter_bank
beyond-bits = refl

-- ---- lexemes
-- `>>>=`: the longest match, then a byte that forms no token
shift : lexeme_at (62 ∷ 62 ∷ 62 ∷ 61 ∷ []) 0 ≡ Found (Symbol 8) 0 3
unfolding lexeme_of
shift = refl

then-equals : lexeme_at (62 ∷ 62 ∷ 62 ∷ 61 ∷ []) 3 ≡ Wrong 4 3
unfolding lexeme_of
then-equals = refl

-- `D0.5`: a cell, then a dot that starts no token
dotted : lexeme_at (68 ∷ 48 ∷ 46 ∷ 53 ∷ []) 0 ≡ Found (Cell D 0) 0 2
unfolding lexeme_of word_token other_word named_rule letter_bank
dotted = refl

then-dot : lexeme_at (68 ∷ 48 ∷ 46 ∷ 53 ∷ []) 2 ≡ Wrong 4 2
unfolding lexeme_of
then-dot = refl

-- `3MAX(`: letters belong to the run of a numeral
run_on : lexeme_at (51 ∷ 77 ∷ 65 ∷ 88 ∷ 40 ∷ []) 0 ≡ Wrong 4 0
unfolding lexeme_of
run_on = refl

-- a tab and a space before `7`
blank : lexeme_at (9 ∷ 32 ∷ 55 ∷ []) 0 ≡ Found (Number (Int (pos 7))) 2 3
unfolding lexeme_of
blank = refl

-- `-2147483648`: the minus is a token, so 5 at place 1
minus-first : scan (45 ∷ 50 ∷ 49 ∷ 52 ∷ 55 ∷ 52 ∷ 56 ∷ 51 ∷ 54 ∷ 52 ∷ 56 ∷ []) ≡ wrong 5 1
unfolding scan_from lexeme_of
minus-first = refl

-- `1 +D0`
sum : scan (49 ∷ 32 ∷ 43 ∷ 68 ∷ 48 ∷ []) ≡ tokens (record { token = Number (Int (pos 1)); place = 0 } ∷ record { token = Symbol 4; place = 2 }
    ∷ record { token = Cell D 0; place = 3 } ∷ [])
unfolding scan_from lexeme_of word_token other_word named_rule letter_bank
sum = refl
