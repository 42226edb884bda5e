-- Names of cells (paper 01): "a bank letter and a decimal number without a leading zero (`0` itself is good)", within its bank; and answer 2: "target is
-- not exactly one word that is a C, V, N, D or R cell, no spaces".
use Rattle.std.specs.Prelude.{Bool, true, false, ◌&&◌, cond, List, [], ◌∷◌, ℕ, ◌+◌, ◌-◌, ◌*◌, ◌^◌, eqb, leb, ltb, Option, Some, None}
use Rattle.memory.specs.declared.Bank.TheVariants.{X, C, «V», N, D, R}
use Rattle.memory.specs.Layout.{layout_of}
use Rattle.words.specs.Ascii.{byte}
use Rattle.memory.specs.declared.Bank.{Bank}

-- the six letters
unfoldable pub letter_bank : ℕ → Option Bank
letter_bank c =
    cond (eqb c (byte "X")) (Some X)
    (cond (eqb c (byte "C")) (Some C)
    (cond (eqb c (byte "V")) (Some «V»)
    (cond (eqb c (byte "N")) (Some N)
    (cond (eqb c (byte "D")) (Some D)
    (cond (eqb c (byte "R")) (Some R)
    None)))))

abbrev pub is_digit : ℕ → Bool
is_digit c = leb (byte "0") c && leb c (byte "9")

abbrev pub all_digits : List ℕ → Bool
all_digits [] = true
all_digits (c ∷ cs) = is_digit c && all_digits cs

-- the digits that some bytes begin with
abbrev pub digits_of : List ℕ → List ℕ
digits_of [] = []
digits_of (c ∷ cs) = cond (is_digit c) (c ∷ digits_of cs) []

-- there is a digit, and no leading zero but in `0` itself
abbrev pub no_leading_zero : List ℕ → Bool
no_leading_zero [] = false
no_leading_zero (c ∷ []) = true
no_leading_zero (c ∷ d ∷ cs) = cond (eqb c (byte "0")) false true

-- the number of decimal digits, after those that make n
abbrev pub decimal_from : ℕ → List ℕ → ℕ
decimal_from n [] = n
decimal_from n (c ∷ cs) = decimal_from (n * 10 + (c - byte "0")) cs

abbrev pub decimal_value : List ℕ → ℕ
decimal_value cs = decimal_from 0 cs

-- more than any decimal that is asked for: a reader need not tell larger ones apart
abbrev pub decimal_limit : ℕ
decimal_limit = 2 ^ 32

-- a decimal number without a leading zero, below n
abbrev pub number_below : ℕ → List ℕ → Bool
number_below n cs = no_leading_zero cs && all_digits cs && ltb (decimal_value cs) n

abbrev pub number_rule : ℕ → List ℕ → Option ℕ
number_rule n cs = cond (number_below n cs) (Some (decimal_value cs)) None

-- the digits cs after a bank letter
abbrev pub cell_after_letter : List ℕ → Option Bank → Option (Bank × ℕ)
cell_after_letter cs (Some b) = cond (number_below (layout_of b).elements cs) (Some (b, decimal_value cs)) None
cell_after_letter cs None = None

unfoldable pub named_rule : List ℕ → Option (Bank × ℕ)
unfolding letter_bank
named_rule [] = None
named_rule (c ∷ cs) = cell_after_letter cs (letter_bank c)

-- X is read only
abbrev pub storable : Option (Bank × ℕ) → Option (Bank × ℕ)
storable (Some (X, i)) = None
storable (Some (C, i)) = Some (C, i)
storable (Some («V», i)) = Some («V», i)
storable (Some (N, i)) = Some (N, i)
storable (Some (D, i)) = Some (D, i)
storable (Some (R, i)) = Some (R, i)
storable None = None

abbrev pub target_rule : List ℕ → Option (Bank × ℕ)
target_rule text = storable (named_rule text)
