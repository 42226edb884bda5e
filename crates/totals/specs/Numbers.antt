-- The totals by number from 0, in the order in which paper 02 and the MATH page list them. The instruction set and the names of the text use these numbers.
use Rattle.std.specs.Prelude.{cond, List, [], ◌∷◌, ℕ, ltb, get_or, Option, Some, None}
use Rattle.values.specs.declared.CompareOp.TheVariants.{Lt, Gt, Le, Ge, Eq, Ne}
use Rattle.values.specs.declared.ChoiceOp.TheVariants.{Max, Min}
use Rattle.operators.specs.Kinds.{kind_number}
use Rattle.totals.specs.declared.TotalOp.{TotalOp}
use Rattle.totals.specs.declared.TotalOp.TheVariants as T'
use Rattle.totals.specs.declared.MatchOp.{MatchOp}
use Rattle.totals.specs.declared.MatchOp.TheVariants as M'
use Rattle.totals.specs.Totals.{total_kind, match_kind}
use Rattle.memory.specs.declared.Bank.{Bank}

abbrev pub total_ops : List TotalOp
total_ops = T'.Sum ∷ T'.Average ∷ T'.Choice Max ∷ T'.Choice Min ∷ []

abbrev pub match_ops : List MatchOp
match_ops =
    M'.Count Eq ∷ M'.Count Ne ∷ M'.Count Ge ∷ M'.Count Gt ∷ M'.Count Le ∷ M'.Count Lt
    ∷ M'.Sum Eq ∷ M'.Sum Ne ∷ M'.Sum Ge ∷ M'.Sum Gt ∷ M'.Sum Le ∷ M'.Sum Lt ∷ []

abbrev pub total_of : ℕ → Option TotalOp
total_of n = cond (ltb n 4) (Some (get_or total_ops n T'.Sum)) None

abbrev pub match_of : ℕ → Option MatchOp
match_of n = cond (ltb n 12) (Some (get_or match_ops n (M'.Count Eq))) None

abbrev pub total_number : TotalOp → ℕ
total_number T'.Sum = 0
total_number T'.Average = 1
total_number (T'.Choice Max) = 2
total_number (T'.Choice Min) = 3

abbrev pub match_number : MatchOp → ℕ
match_number (M'.Count Eq) = 0
match_number (M'.Count Ne) = 1
match_number (M'.Count Ge) = 2
match_number (M'.Count Gt) = 3
match_number (M'.Count Le) = 4
match_number (M'.Count Lt) = 5
match_number (M'.Sum Eq) = 6
match_number (M'.Sum Ne) = 7
match_number (M'.Sum Ge) = 8
match_number (M'.Sum Gt) = 9
match_number (M'.Sum Le) = 10
match_number (M'.Sum Lt) = 11

-- the number of the kind of a total by number over a bank by number; 2 where one of them is none
abbrev pub total_typed : Option TotalOp → Option Bank → ℕ
total_typed (Some o) (Some b) = kind_number (total_kind o b)
total_typed (Some o) None = 2
total_typed None b = 2

abbrev pub match_typed : Option MatchOp → Option Bank → ℕ
match_typed (Some o) (Some b) = kind_number (match_kind o b)
match_typed (Some o) None = 2
match_typed None b = 2
