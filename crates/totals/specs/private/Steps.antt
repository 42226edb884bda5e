-- What a run does with each cell, for the contracts of the loops: the totals of specs/Totals.antt by what they combine.
use Rattle.std.specs.Prelude.{Bool, true, false, ℕ, pos}
use Rattle.reals.specs.declared.ArithOp.TheVariants.{Add}
use Rattle.values.specs.declared.Kind.{Kind}
use Rattle.values.specs.declared.Value.{Value}
use Rattle.values.specs.declared.Value.TheVariants.{Int, Real}
use Rattle.values.specs.declared.Outcome.{Outcome}
use Rattle.values.specs.declared.CompareOp.{CompareOp}
use Rattle.values.specs.Singles.{zero_real}
use Rattle.operators.specs.Operators.{arith_rule}
use Rattle.totals.specs.declared.Step.{Step}
use Rattle.totals.specs.declared.Step.TheVariants as S
use Rattle.totals.specs.declared.Visited.{Visited}
use Rattle.totals.specs.Totals.{fold_cells, zero_of, average, from_first, choosing, count_if, sum_if}

abbrev pub ended_with : Outcome → ℕ → Visited
ended_with r n = record { result = r; cells = n }

-- SUMR, or AVGR where it is averaged
abbrev pub sum_step : Bool → Step
sum_step true = S.Average
sum_step false = S.Add

-- COUNTIF where it counts, else SUMIF
abbrev pub match_step : Bool → CompareOp → Value → Step
match_step true o v = S.CountIf o v
match_step false o v = S.AddIf o v

abbrev pub step_rule : Step → Value → Value → Outcome
step_rule S.Add = arith_rule Add
step_rule S.Average = arith_rule Add
step_rule (S.Choose o) = choosing o
step_rule (S.CountIf o v) = count_if o v
step_rule (S.AddIf o v) = sum_if o v

-- over cells of the kind k
unfoldable pub run_over : Step → Kind → (ℕ → Outcome) → ℕ → ℕ → Visited
unfolding fold_cells
run_over S.Add k read i n = fold_cells read (arith_rule Add) (zero_of k) i n
run_over S.Average k read i n = average n (fold_cells read (arith_rule Add) (Real zero_real) i n)
run_over (S.Choose o) k read i n = from_first k read (choosing o) i n
run_over (S.CountIf o v) k read i n = fold_cells read (count_if o v) (Int (pos 0)) i n
run_over (S.AddIf o v) k read i n = fold_cells read (sum_if o v) (zero_of k) i n
