-- For the contracts of private functions: one part of the file, its answer, and what it adds to each output.
use Rattle.std.specs.Prelude.{◌≡◌, List, [], ◌∷◌, ℕ, ◌-◌, ◌≤◌, ◌<◌, length, take, drop, Result, Ok, Err}
use Rattle.std.specs.Result.{result_unwrap_or}
use Rattle.card_laws.specs.Cards.{number_of}
use Rattle.salvage_laws.specs.Salvage.{parts, PartAnswer, keeps, leaves, name_lines}

-- the bytes from `at` to `end` are the first part of what is left at `at`
pub record PartTo (f : List ℕ) (at end : ℕ) : Type 0 where
  pub order : at < end
  pub inside : end ≤ length f
  pub cuts : parts (drop at f) ≡ take (end - at) (drop at f) ∷ parts (drop end f)

-- of a kept card its number, else what leaves it out
abbrev pub answer_in : PartAnswer → Result ℕ ℕ
answer_in (keeps c) = Ok (number_of c)
answer_in (leaves a) = Err a

abbrev pub last_in : ℕ → Result ℕ ℕ → ℕ
last_in last a = result_unwrap_or a last

-- what a part adds to the kept output, and how much
abbrev pub kept_of : Result ℕ ℕ → List ℕ → List ℕ
kept_of (Ok n) p = p
kept_of (Err a) p = []

abbrev pub kept_size : Result ℕ ℕ → ℕ → ℕ
kept_size (Ok n) size = size
kept_size (Err a) size = 0

-- what a part adds to the named output
abbrev pub name_of : Result ℕ ℕ → ℕ → ℕ → List ℕ
name_of (Ok n) first size = []
name_of (Err a) first size = name_lines first size a
