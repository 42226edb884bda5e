-- The banks by number from 0, in the order in which paper 01 lists them ("What the box takes"). The instruction set uses these numbers.
use Rattle.std.specs.Prelude.{cond, List, [], ◌∷◌, ℕ, ltb, get_or, Option, Some, None}
use Rattle.operators.specs.Kinds.{kind_number}
use Rattle.memory.specs.declared.Bank.{Bank}
use Rattle.memory.specs.declared.Bank.TheVariants.{X, C, «V», N, D, R}
use Rattle.memory.specs.Layout.{layout_of}
use Rattle.memory.specs.Cells.{bank_kind}

abbrev pub banks : List Bank
banks = X ∷ C ∷ «V» ∷ N ∷ D ∷ R ∷ []

abbrev pub bank_numbered : ℕ → Option Bank
bank_numbered n = cond (ltb n 6) (Some (get_or banks n X)) None

abbrev pub bank_number : Bank → ℕ
bank_number X = 0
bank_number C = 1
bank_number «V» = 2
bank_number N = 3
bank_number D = 4
bank_number R = 5

-- the number of the kind of a bank's cells, and 2 where there is no bank
abbrev pub bank_typed : Option Bank → ℕ
bank_typed (Some b) = kind_number (bank_kind b)
bank_typed None = 2

abbrev pub bank_elements : Option Bank → ℕ
bank_elements (Some b) = (layout_of b).elements
bank_elements None = 0
