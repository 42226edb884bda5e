-- For the contracts of functions that no reader calls: what was read of a hexadecimal numeral, as a judgement.
use Rattle.std.specs.Prelude.{ℕ, Result, Ok, Err}
use Rattle.values.specs.declared.Value.TheVariants.{Int}
use Rattle.values.specs.Patterns.{signed_of}
use Rattle.tokens.specs.declared.Token.TheVariants.{Number}
use Rattle.tokens.specs.declared.Token.{Token}

-- a pattern of 32 bits, or the answer that refuses the numeral
abbrev pub pattern_token : Result ℕ ℕ → Result Token ℕ
pattern_token (Ok bits) = Ok (Number (Int (signed_of 32 bits)))
pattern_token (Err answer) = Err answer
