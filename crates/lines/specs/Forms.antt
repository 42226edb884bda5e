-- The value of a cell on input (paper 01: "cells (R as its pattern)"; "Integers print in signed decimal"): an integer in just the form in which it is
-- printed, within its bank's range; for R the printed form, with hexadecimal digits of either case. With any other value the line is one "of any other
-- form".
use Rattle.std.specs.Prelude.{◌&&◌, not, cond, List, [], ◌∷◌, ℕ, suc, ◌-◌, ◌*◌, eqb, length, drop, Option, Some, None}
use Rattle.memory.specs.declared.Bank.{Bank}
use Rattle.memory.specs.declared.Bank.TheVariants.{X, C, «V», N, D, R}
use Rattle.memory.specs.Names.{decimal_value, number_below}
use Rattle.tokens.specs.Bytes.{all, is_hex}
use Rattle.tokens.specs.Numerals.{hex_from, is_hex_run}
use Rattle.words.specs.Ascii.{byte}

-- digits without a leading zero, whose number is below n; no `+`
abbrev pub natural_form : ℕ → List ℕ → Option ℕ
natural_form n cs = cond (number_below n cs) (Some (decimal_value cs)) None

-- the digits after a `-`: from 1, since there is no -0, to half of the 2 * half patterns; in two's complement the number is taken from 2 * half
abbrev pub negative_form : ℕ → List ℕ → Option ℕ
negative_form half cs = cond (number_below (suc half) cs && not (eqb (decimal_value cs) 0)) (Some (2 * half - decimal_value cs)) None

-- an integer from -half to half - 1
abbrev pub signed_form : ℕ → List ℕ → Option ℕ
signed_form half [] = None
signed_form half (c ∷ cs) = cond (eqb c (byte "-")) (negative_form half cs) (natural_form half (c ∷ cs))

-- `0x` and exactly eight hexadecimal digits
abbrev pub hex_form : List ℕ → Option ℕ
hex_form cs = cond (is_hex_run cs && eqb (length cs) 10 && all is_hex (drop 2 cs)) (Some (hex_from 0 (drop 2 cs))) None

-- the pattern that a text gives a cell of a bank: bits are 0 or 1; V "unsigned 16", N "signed 16", D "signed 32", R "singles"
abbrev pub cell_pattern : Bank → List ℕ → Option ℕ
cell_pattern X cs = natural_form 2 cs
cell_pattern C cs = natural_form 2 cs
cell_pattern «V» cs = natural_form 65536 cs
cell_pattern N cs = signed_form 32768 cs
cell_pattern D cs = signed_form 2147483648 cs
cell_pattern R cs = hex_form cs
