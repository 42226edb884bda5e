-- For the contracts of functions that no reader calls: the number of the function that a word names.
use Rattle.std.specs.Prelude.{◌≡◌, cond, List, ℕ, ltb, Result, Ok}
use Rattle.tokens.specs.declared.Token.TheVariants.{Name}
use Rattle.tokens.specs.Words.{function_named, functions, function_count, function_at}
use Rattle.tokens.specs.declared.Token.{Token}

-- the function of a number, or what a word is that none has as its name
abbrev pub name_at : ℕ → Result Token ℕ → Result Token ℕ
name_at r other = cond (ltb r function_count) (Ok (Name (function_at r))) other

-- the number of the function that has the name s, or function_count
pub record Named (s : List ℕ) (r : ℕ) : Type 0 where
  pub named : (other : (Result Token ℕ)) → function_named functions s other ≡ name_at r other
