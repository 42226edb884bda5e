-- Runs of any code: they count no more than its bound, and a skip over a part goes on with what follows it.
use mathlib.Core.Path.{◌≡◌, refl}
use mathlib.Core.List.{List, [], ◌∷◌, ◌++◌}
use Prim.Native.Nat.{ℕ, zero, suc, ◌+◌, ◌≤◌}
use native.Mathlib.Omega.{arith}
use lib.ListN.{length}
use Rattle.values.specs.declared.Value.{Value}
use Rattle.memory.specs.Environment.{Environment}
use Rattle.totals.proofs.Laws.{total-laws}
use Rattle.code.specs.declared.Instr.{Instr}
use Rattle.code.specs.declared.Instr.TheVariants.{PushInt, PushReal, Load, LoadIndexed, Unary, Binary, Jump, JumpIf, Tick, Since, Total, Match, Unknown}
use Rattle.machine.specs.declared.Ran.{Ran}
use Rattle.machine.specs.Machine.{Next, goes, halts, act, cells_begun, cost, range_cells, cost_at_most, cost_bound, counting, exec}

module _ (E : Environment) where
  -- what an instruction that adds n leads to, with the code c after it
  abbrev pub onward : ℕ → List Instr → Next → Ran
  onward n c x = elim x as (λ x. Ran) [ goes k st ↦ counting n (exec E c k st) | halts e ↦ record { end = e; count = n } ]

  -- the run of an instruction that is not skipped
  pub exec-next : (i : Instr) (c : List Instr) (st : List Value) → exec E (i ∷ c) 0 st ≡ onward (cost E i st) c (act E i st)
  unfolding exec
  exec-next i c st = refl

  -- no more cells are begun than the range has
  pub begun-most : (i : Instr) (st : List Value) → cells_begun E i st ≤ range_cells i
  begun-most (PushInt z) st = omega arith
  begun-most (PushReal x) st = omega arith
  begun-most (Load b i) st = omega arith
  begun-most (LoadIndexed b) st = omega arith
  begun-most (Unary o) st = omega arith
  begun-most (Binary o) st = omega arith
  begun-most (Jump d) st = omega arith
  begun-most (JumpIf t d) st = omega arith
  begun-most Tick st = omega arith
  begun-most Since st = omega arith
  begun-most (Total o b i n) st = omega (arith, total-laws.total_cells E o b i n)
  begun-most (Match o b i n) [] = omega arith
  begun-most (Match o b i n) (v ∷ st) = total-laws.match_cells E o v b i n
  begun-most Unknown st = omega arith

  pub cost-is : (i : Instr) (st : List Value) → cost E i st ≡ suc (cells_begun E i st)
  unfolding cost
  cost-is i st = refl

  cost-most : (i : Instr) (st : List Value) → cost E i st ≤ cost_at_most i
  cost-most i st = omega (arith, cost-is i st, begun-most i st)

  onward-most : (n m : ℕ) (c : List Instr) (x : Next) → n ≤ m → ((k : ℕ) (st : List Value) → (exec E c k st).count ≤ cost_bound c)
      → (onward n c x).count ≤ m + cost_bound c
  onward-most n m c (goes k st) l h = omega (arith, h k st)
  onward-most n m c (halts e) l h = omega arith

  pub count_most : (c : List Instr) (k : ℕ) (st : List Value) → (exec E c k st).count ≤ cost_bound c
  unfolding exec
  count_most [] zero st = omega arith
  count_most [] (suc k) st = omega arith
  count_most (i ∷ c) (suc k) st = omega (arith, count_most c k st)
  count_most (i ∷ c) zero st = onward-most (cost E i st) (cost_at_most i) c (act E i st) (cost-most i st) (count_most c)

  pub exec-skip : (c d : List Instr) (k : ℕ) (st : List Value) → k ≡ length c → exec E (c ++ d) k st ≡ exec E d 0 st
  unfolding exec
  exec-skip [] d zero st h = refl
  exec-skip [] d (suc k) st h = absurd (omega arith)
  exec-skip (i ∷ c) d zero st h = absurd (omega arith)
  exec-skip (i ∷ c) d (suc k) st h = exec-skip c d k st (omega arith)
