-- The totals by their runs, and the banks by the loop that takes them.
use mathlib.Core.Path.{◌≡◌, refl}
use mathlib.Core.Bool.{false}
use mathlib.Core.List.{List}
use Prim.Native.Nat.{ℕ}
use Rattle.values.specs.declared.Kind.TheVariants as K
use Rattle.values.specs.declared.Value.{Value}
use Rattle.values.specs.declared.Outcome.{Outcome}
use Rattle.values.specs.declared.ChoiceOp.{ChoiceOp}
use Rattle.values.specs.declared.CompareOp.{CompareOp}
use Rattle.memory.specs.declared.Bank.{Bank}
use Rattle.memory.specs.declared.Bank.TheVariants.{X, C, «V», N, D, R}
use Rattle.memory.specs.Cells.{bank_kind, read_rule, real_bank}
use Rattle.memory.specs.Environment.{memory_at}
use Rattle.totals.specs.declared.TotalOp.{TotalOp}
use Rattle.totals.specs.declared.TotalOp.TheVariants as T'
use Rattle.totals.specs.declared.MatchOp.{MatchOp}
use Rattle.totals.specs.declared.MatchOp.TheVariants as M'
use Rattle.totals.specs.declared.Step.TheVariants as S
use Rattle.totals.specs.declared.Visited.{Visited}
use Rattle.totals.specs.Totals.{total_over, match_over}
use Rattle.totals.specs.private.Steps.{run_over}
use Rattle.totals.proofs.integers.Whole.{no-int}

-- a bank of integers is not R
pub not-real : (b : Bank) → bank_kind b ≡ K.Int → real_bank b ≡ false
not-real X e = refl
not-real C e = refl
not-real «V» e = refl
not-real N e = refl
not-real D e = refl
not-real R e = absurd (no-int e)

-- an average is real, whatever the bank
pub any-kind : (b : Bank) (read : ℕ → Outcome) (i n : ℕ) → run_over S.Average K.Real read i n ≡ run_over S.Average (bank_kind b) read i n
unfolding run_over
any-kind b read i n = refl

-- r is what the run gave, whatever the tick
module _ (image : List ℕ) (b : Bank) (i n : ℕ) {r : Visited} where
  module _ (op : TotalOp) where
    pub sums : op ≡ T'.Sum → r ≡ run_over S.Add (bank_kind b) (read_rule image b) i n → (tick : ℕ) → r ≡ total_over (memory_at tick image) op b i n
    unfolding total_over run_over
    sums e h tick = rw e h

    pub averages : op ≡ T'.Average → r ≡ run_over S.Average (bank_kind b) (read_rule image b) i n → (tick : ℕ) → r ≡ total_over (memory_at tick image) op b i n
    unfolding total_over run_over
    averages e h tick = rw e h

    pub chooses : (o : ChoiceOp) → op ≡ T'.Choice o → r ≡ run_over (S.Choose o) (bank_kind b) (read_rule image b) i n → (tick : ℕ)
        → r ≡ total_over (memory_at tick image) op b i n
    unfolding total_over run_over
    chooses o e h tick = rw e h

  module _ (op : MatchOp) (o : CompareOp) (v : Value) where
    pub counts-matches : op ≡ M'.Count o → r ≡ run_over (S.CountIf o v) (bank_kind b) (read_rule image b) i n → (tick : ℕ)
        → r ≡ match_over (memory_at tick image) op v b i n
    unfolding match_over run_over
    counts-matches e h tick = rw e h

    pub sums-matches : op ≡ M'.Sum o → r ≡ run_over (S.AddIf o v) (bank_kind b) (read_rule image b) i n → (tick : ℕ)
        → r ≡ match_over (memory_at tick image) op v b i n
    unfolding match_over run_over
    sums-matches e h tick = rw e h
