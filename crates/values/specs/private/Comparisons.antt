-- Comparisons and choices over any type with an order, by what its `==` and its `partial_cmp` answer: `compare_int` and `choice_int` are
-- these at integers.
use Rattle.std.specs.Prelude.{Bool, cond, not, Option}
use Rattle.std.specs.Ordering.{partial_lt, partial_le}
use Rattle.std.specs.declared.cmp.Ordering.{Ordering}
use Rattle.values.specs.declared.CompareOp.{CompareOp}
use Rattle.values.specs.declared.CompareOp.TheVariants.{Lt, Gt, Le, Ge, Eq, Ne}
use Rattle.values.specs.declared.ChoiceOp.{ChoiceOp}
use Rattle.values.specs.declared.ChoiceOp.TheVariants.{Max, Min}

abbrev pub comparison : {A : Type 0} → (A → A → Bool) → (A → A → Option Ordering) → CompareOp → A → A → Bool
comparison eq cmp Lt a b = partial_lt cmp a b
comparison eq cmp Gt a b = partial_lt cmp b a
comparison eq cmp Le a b = partial_le cmp a b
comparison eq cmp Ge a b = partial_le cmp b a
comparison eq cmp Eq a b = eq a b
comparison eq cmp Ne a b = not (eq a b)

abbrev pub choice : {A : Type 0} → (A → A → Option Ordering) → ChoiceOp → A → A → A
choice cmp Max a b = cond (partial_lt cmp a b) b a
choice cmp Min a b = cond (partial_lt cmp b a) b a
