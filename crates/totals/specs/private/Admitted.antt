-- What a run over cells comes to in the full box (reals true) and in the profile without reals (false): there AVGR, a range of R and a comparison with a real
-- are no visit. For the contracts of functions that take `reals`.
use Rattle.std.specs.Prelude.{Bool, not, ◌||◌, cond, ℕ}
use Rattle.values.specs.declared.Value.{Value}
use Rattle.values.specs.declared.Outcome.TheVariants.{WrongKind}
use Rattle.operators.specs.Reals.{real_value}
use Rattle.memory.specs.declared.Bank.{Bank}
use Rattle.memory.specs.Cells.{real_bank}
use Rattle.memory.specs.Environment.{Environment}
use Rattle.totals.specs.declared.TotalOp.{TotalOp}
use Rattle.totals.specs.declared.MatchOp.{MatchOp}
use Rattle.totals.specs.declared.Visited.{Visited}
use Rattle.totals.specs.Totals.{total_over, match_over, real_total}

-- no cell is begun, and the outcome is no operation's
abbrev pub no_visit : Visited
no_visit = record { result = WrongKind; cells = 0 }

abbrev pub admitted_visit : Bool → Bool → Visited → Visited
admitted_visit reals real x = cond (reals || not real) x no_visit

abbrev pub total_in : Bool → Environment → TotalOp → Bank → ℕ → ℕ → Visited
total_in reals E o b i n = admitted_visit reals (real_bank b || real_total o) (total_over E o b i n)

abbrev pub match_in : Bool → Environment → MatchOp → Value → Bank → ℕ → ℕ → Visited
match_in reals E o v b i n = admitted_visit reals (real_bank b || real_value v) (match_over E o v b i n)
