-- What a run over cells comes to in the full box and in the profile without reals, for the functions that take `reals`.
use mathlib.Core.Path.{◌≡◌}
use mathlib.Core.Bool.{Bool, false, ◌||◌}
use mathlib.Core.List.{List}
use Prim.Native.Nat.{ℕ}
use Rattle.values.specs.declared.Value.{Value}
use Rattle.operators.specs.Reals.{real_value}
use Rattle.memory.specs.declared.Bank.{Bank}
use Rattle.memory.specs.Cells.{real_bank}
use Rattle.memory.specs.Environment.{memory_at}
use Rattle.totals.specs.declared.TotalOp.{TotalOp}
use Rattle.totals.specs.declared.MatchOp.{MatchOp}
use Rattle.totals.specs.declared.Visited.{Visited}
use Rattle.totals.specs.Totals.{total_over, match_over, real_total}
use Rattle.totals.specs.private.Admitted.{admitted_visit, total_in, match_in}

-- without reals, of a bank of integers and nothing else real: r is the run x of the full box
module _ (reals bank other : Bool) (x : Visited) {r : Visited} where
  whole : reals ≡ false → bank ≡ false → other ≡ false → r ≡ x → r ≡ admitted_visit reals (bank || other) x
  whole e f g h = rw (e, f, g) h

module _ (reals : Bool) (image : List ℕ) (op : TotalOp) (b : Bank) (i n : ℕ) {r : Visited} where
  pub total-whole : reals ≡ false → real_bank b ≡ false → real_total op ≡ false → ((tick : ℕ) → r ≡ total_over (memory_at tick image) op b i n) → (tick : ℕ)
      → r ≡ total_in reals (memory_at tick image) op b i n
  total-whole e f g h tick = whole reals (real_bank b) (real_total op) _ e f g (h tick)

module _ (reals : Bool) (image : List ℕ) (op : MatchOp) (v : Value) (b : Bank) (i n : ℕ) {r : Visited} where
  pub match-whole : reals ≡ false → real_bank b ≡ false → real_value v ≡ false → ((tick : ℕ) → r ≡ match_over (memory_at tick image) op v b i n) → (tick : ℕ)
      → r ≡ match_in reals (memory_at tick image) op v b i n
  match-whole e f g h tick = whole reals (real_bank b) (real_value v) _ e f g (h tick)
