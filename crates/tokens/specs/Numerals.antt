-- Numerals (paper 01): "decimal digits up to 2147483647 (leading zeros allowed, never octal); `0x` and one to eight hex digits of either case, taken as a
-- 32-bit pattern"; "A larger decimal, nine or more hex digits .. is 5; a numeral run of any other form is 4." Paper 02, request 4: "A real literal may have
-- up to nine digits and an exponent of -20 to 20, written E, an optional sign directly after it, past which the run goes on, and digits. `1E5` is real. The
-- answer is still the nearest single, ties to even .. E without digits is 4; otherwise ten digits, or an exponent outside the range, is 5."
use Rattle.std.specs.Prelude.{Bool, true, false, ◌&&◌, ◌||◌, cond, List, [], ◌∷◌, ◌++◌, ℕ, ◌+◌, ◌-◌, ◌*◌, eqb, leb, ℤ, pos, ◌-ℤ◌, length, get_or, drop, Result, Ok, Err}
use Rattle.values.specs.declared.Value.TheVariants.{Int, Real}
use Rattle.values.specs.Patterns.{signed_of}
use Rattle.literals.specs.Literals.{nearest_decimal}
use Rattle.memory.specs.Names.{all_digits, digits_of, decimal_value}
use Rattle.tokens.specs.declared.Token.TheVariants.{Number}
use Rattle.tokens.specs.Bytes.{is_hex, is_run, run_len, all}
use Rattle.words.specs.Ascii.{byte}
use Rattle.tokens.specs.declared.Token.{Token}

abbrev pub non_empty : List ℕ → Bool
non_empty [] = false
non_empty (c ∷ cs) = true

abbrev pub decimal_digits : List ℕ → Bool
decimal_digits cs = non_empty cs && all_digits cs

abbrev pub decimal_of : List ℕ → Result Token ℕ
decimal_of cs = cond (leb (decimal_value cs) 2147483647) (Ok (Number (Int (pos (decimal_value cs))))) (Err 5)

abbrev pub hex_digit : ℕ → ℕ
hex_digit c = cond (leb c (byte "9")) (c - byte "0") (cond (leb c (byte "F")) (c - (byte "A" - 10)) (c - (byte "a" - 10)))

abbrev pub hex_from : ℕ → List ℕ → ℕ
hex_from n [] = n
hex_from n (c ∷ cs) = hex_from (n * 16 + hex_digit c) cs

-- the digits after `0x`
abbrev pub hex_of : List ℕ → Result Token ℕ
hex_of cs = cond (non_empty cs && all is_hex cs) (cond (leb (length cs) 8) (Ok (Number (Int (signed_of 32 (hex_from 0 cs))))) (Err 5)) (Err 4)

abbrev pub is_hex_run : List ℕ → Bool
is_hex_run [] = false
is_hex_run (c ∷ []) = false
is_hex_run (c ∷ d ∷ cs) = eqb c (byte "0") && eqb d (byte "x")

-- ---- the parts of a real literal, from the front: digits; a dot and digits; what follows
abbrev pub behind_digits : List ℕ → List ℕ
behind_digits cs = drop (length (digits_of cs)) cs

-- bytes that begin with a dot and a digit
abbrev pub has_part : List ℕ → Bool
has_part [] = false
has_part (c ∷ cs) = eqb c (byte ".") && non_empty (digits_of cs)

-- the digits behind the dot; none where it has none
abbrev pub part_of : List ℕ → List ℕ
part_of cs = cond (has_part cs) (digits_of (drop 1 cs)) []

abbrev pub behind_part : List ℕ → List ℕ
behind_part cs = cond (has_part cs) (behind_digits (drop 1 cs)) cs

abbrev pub fraction_digits : List ℕ → List ℕ
fraction_digits cs = part_of (behind_digits cs)

-- what follows the mantissa
abbrev pub behind_mantissa : List ℕ → List ℕ
behind_mantissa cs = behind_part (behind_digits cs)

abbrev pub mantissa_digits : List ℕ → List ℕ
mantissa_digits cs = digits_of cs ++ fraction_digits cs

-- ---- the exponent: nothing, or `E`, an optional sign and digits
abbrev pub is_sign : ℕ → Bool
is_sign c = eqb c (byte "+") || eqb c (byte "-")

abbrev pub without_sign : List ℕ → List ℕ
without_sign [] = []
without_sign (c ∷ cs) = cond (is_sign c) cs (c ∷ cs)

abbrev pub is_exponent : List ℕ → Bool
is_exponent [] = true
is_exponent (c ∷ cs) = eqb c (byte "E") && decimal_digits (without_sign cs)

abbrev pub is_negative : List ℕ → Bool
is_negative x = eqb (get_or x 1 0) (byte "-")

abbrev pub exponent_size : List ℕ → ℕ
exponent_size x = decimal_value (without_sign (drop 1 x))

-- ---- the value: n is what the digits make, and k of them stand behind the dot
abbrev pub scale_of : Bool → ℕ → ℕ → ℤ
scale_of negative e k = cond negative (pos 0 -ℤ pos e) (pos e) -ℤ pos k

abbrev pub literal_of : ℕ → ℕ → ℕ → Bool → ℕ → Result Token ℕ
literal_of n count k negative e = cond (leb count 9 && leb e 20) (Ok (Number (Real (nearest_decimal n (scale_of negative e k))))) (Err 5)

abbrev pub literal_number : List ℕ → ℕ
literal_number cs = decimal_value (mantissa_digits cs)

abbrev pub literal_scale : List ℕ → ℤ
literal_scale cs = scale_of (is_negative (behind_mantissa cs)) (exponent_size (behind_mantissa cs)) (length (fraction_digits cs))

-- a mantissa and an exponent
abbrev pub real_of : List ℕ → Result Token ℕ
real_of cs =
    cond (is_exponent (behind_mantissa cs))
    (literal_of (literal_number cs) (length (mantissa_digits cs)) (length (fraction_digits cs)) (is_negative (behind_mantissa cs)) (exponent_size (behind_mantissa cs)))
    (Err 4)

-- a run that starts with a digit
abbrev pub numeral_of : List ℕ → Result Token ℕ
numeral_of cs = cond (decimal_digits cs) (decimal_of cs) (cond (is_hex_run cs) (hex_of (drop 2 cs)) (real_of cs))

-- ---- the run
-- bytes that begin with `E` and a sign
abbrev pub opens_exponent : List ℕ → Bool
opens_exponent [] = false
opens_exponent (c ∷ cs) = eqb c (byte "E") && is_sign (get_or cs 0 0)

-- how many bytes of what follows a mantissa belong to the numeral's run: it goes on past the sign of an exponent, and past no other
abbrev pub tail_len : List ℕ → ℕ
tail_len x = cond (opens_exponent x) (2 + run_len is_run (drop 2 x)) (run_len is_run x)

abbrev pub numeral_len : List ℕ → ℕ
numeral_len cs = (length cs - length (behind_mantissa cs)) + tail_len (behind_mantissa cs)
