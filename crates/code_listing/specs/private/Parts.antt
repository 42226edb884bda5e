-- What is put of an instruction by its class, for the contracts of private functions.
use Rattle.std.specs.Prelude.{◌≡◌, List, [], ◌∷◌, ℕ, ◌<◌, Option, Some, None}
use Rattle.code.specs.declared.Instr.TheVariants.{Unknown}
use Rattle.code.specs.Instructions.{decode_at}
use Rattle.lines.specs.Printing.{letter_byte, cell_name}
use Rattle.code_listing.specs.Listing.{range_text}
use Rattle.memory.specs.declared.Bank.{Bank}

abbrev pub letter_of : Option Bank → List ℕ
letter_of (Some b) = letter_byte b ∷ []
letter_of None = []

abbrev pub cell_of : Option Bank → ℕ → List ℕ
cell_of (Some b) i = cell_name b i
cell_of None i = []

abbrev pub range_of : Option Bank → ℕ → ℕ → List ℕ
range_of (Some b) i n = range_text b i n
range_of None i n = []

-- each of the first n instructions is known
pub record KnownCode (code : List ℕ) (n : ℕ) : Type 0 where
  pub known : (p : ℕ) → p < n → decode_at code p ≡ Unknown → ⊥
