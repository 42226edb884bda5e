-- The machine of docs/INSTRUCTIONS.md: one rule an instruction on the values held (the last pushed first), and what is left of the code. The state is the
-- instructions left and how many of them to skip, so no place is named. Paper 01: "An instruction .. sees only itself, the values held and the memory", and
-- paper 02 of the tick: "an instruction sees it too"; "Instructions executed are those begun, the faulting one included". Total for any bytes: `Stuck` is
-- what the verifier rules out.
use Rattle.std.specs.Prelude.{cond, List, [], ◌∷◌, ℕ, zero, suc, ◌+◌, ltb, length}
use Rattle.std.specs.Bool.{beq}
use Rattle.values.specs.declared.Value.{Value}
use Rattle.values.specs.declared.Value.TheVariants.{Int, Real}
use Rattle.values.specs.declared.Outcome.{Outcome}
use Rattle.values.specs.Patterns.{signed_of}
use Rattle.operators.specs.Operators.{unary_rule, since_rule, binary_rule, truth_rule}
use Rattle.memory.specs.Environment.{Environment, indexed_cell, memory_at}
use Rattle.totals.specs.Totals.{total_over, match_over}
use Rattle.code.specs.declared.Instr.{Instr}
use Rattle.code.specs.declared.Instr.TheVariants.{PushInt, PushReal, Load, LoadIndexed, Unary, Binary, Jump, JumpIf, Tick, Since, Total, Match, Unknown}
use Rattle.code.specs.Instructions.{instructions}
use Rattle.machine.specs.declared.Ended.{Ended}
use Rattle.machine.specs.declared.Ended.TheVariants.{Done, Stopped, Stuck}
use Rattle.machine.specs.declared.Ran.{Ran}

-- "the height never exceeds 128"
abbrev pub max_height : ℕ
max_height = 128

-- what an instruction leads to: instructions to skip and values held, or the end
pub data Next : Type 0 where
  goes : ℕ → List Value → Next
  halts : Ended → Next

abbrev pub push_value : Value → List Value → Next
push_value v st = cond (ltb (length st) max_height) (goes 0 (v ∷ st)) (halts Stuck)

abbrev pub push_outcome : Outcome → List Value → Next
push_outcome (Outcome.Done v) st = push_value v st
push_outcome (Outcome.Stopped f) st = halts (Stopped f)
push_outcome Outcome.WrongKind st = halts Stuck

unfoldable pub act : Environment → Instr → List Value → Next
act E (PushInt z) st = push_value (Int z) st
act E (PushReal x) st = push_value (Real x) st
act E (Load b i) st = push_outcome (E.cell b i) st
act E (LoadIndexed b) [] = halts Stuck
act E (LoadIndexed b) (v ∷ st) = push_outcome (indexed_cell E b v) st
act E (Unary o) [] = halts Stuck
act E (Unary o) (v ∷ st) = push_outcome (unary_rule o v) st
act E (Binary o) [] = halts Stuck
act E (Binary o) (w ∷ []) = halts Stuck
act E (Binary o) (w ∷ (v ∷ st)) = push_outcome (binary_rule o v w) st
act E (Jump d) st = goes d st
act E (JumpIf t d) [] = halts Stuck
act E (JumpIf t d) (v ∷ st) = cond (beq (truth_rule v) t) (goes d st) (goes 0 st)
act E Tick st = push_value (Int (signed_of 32 E.tick)) st
act E Since [] = halts Stuck
act E Since (v ∷ st) = push_outcome (since_rule E.tick v) st
act E (Total o b i n) st = push_outcome (total_over E o b i n).result st
act E (Match o b i n) [] = halts Stuck
act E (Match o b i n) (v ∷ st) = push_outcome (match_over E o v b i n).result st
act E Unknown st = halts Stuck

-- the cells that an instruction begins
abbrev pub cells_begun : Environment → Instr → List Value → ℕ
cells_begun E (PushInt z) st = 0
cells_begun E (PushReal x) st = 0
cells_begun E (Load b i) st = 0
cells_begun E (LoadIndexed b) st = 0
cells_begun E (Unary o) st = 0
cells_begun E (Binary o) st = 0
cells_begun E (Jump d) st = 0
cells_begun E (JumpIf t d) st = 0
cells_begun E Tick st = 0
cells_begun E Since st = 0
cells_begun E (Total o b i n) st = (total_over E o b i n).cells
cells_begun E (Match o b i n) [] = 0
cells_begun E (Match o b i n) (v ∷ st) = (match_over E o v b i n).cells
cells_begun E Unknown st = 0

-- what an instruction that is begun adds to the count: "one for each instruction and each cell visited, a faulting one included" (paper 02, Ask 2)
unfoldable pub cost : Environment → Instr → List Value → ℕ
cost E i st = suc (cells_begun E i st)

-- the cells of an instruction's range
abbrev pub range_cells : Instr → ℕ
range_cells (PushInt z) = 0
range_cells (PushReal x) = 0
range_cells (Load b i) = 0
range_cells (LoadIndexed b) = 0
range_cells (Unary o) = 0
range_cells (Binary o) = 0
range_cells (Jump d) = 0
range_cells (JumpIf t d) = 0
range_cells Tick = 0
range_cells Since = 0
range_cells (Total o b i n) = n
range_cells (Match o b i n) = n
range_cells Unknown = 0

-- the most that it adds, whatever the memory and the values held, and the most that the instructions of some code add
abbrev pub cost_at_most : Instr → ℕ
cost_at_most i = suc (range_cells i)

abbrev pub cost_bound : List Instr → ℕ
cost_bound [] = 0
cost_bound (i ∷ c) = cost_at_most i + cost_bound c

-- "a checked code's length, plus 256 for each such call": no bank has more cells; and how many instructions of some code go over a range
abbrev pub max_cells : ℕ
max_cells = 256

abbrev pub ranges_of : List Instr → ℕ
ranges_of [] = 0
ranges_of (i ∷ c) = cond (ltb 0 (range_cells i)) 1 0 + ranges_of c

-- how a run ends that gives an outcome
abbrev pub end_of : Outcome → Ended
end_of (Outcome.Done v) = Done v
end_of (Outcome.Stopped f) = Stopped f
end_of Outcome.WrongKind = Stuck

-- "the end has one value"
abbrev pub finish : List Value → Ended
finish [] = Stuck
finish (v ∷ []) = Done v
finish (v ∷ (w ∷ st)) = Stuck

abbrev pub counting : ℕ → Ran → Ran
counting n r = record { end = r.end; count = n + r.count }

-- the instructions left, how many of them to skip, the values held
unfoldable pub exec : Environment → List Instr → ℕ → List Value → Ran
unfolding act cost
exec E [] zero st = record { end = finish st; count = 0 }
exec E [] (suc k) st = record { end = Stuck; count = 0 }
exec E (i ∷ c) (suc k) st = exec E c k st
exec E (i ∷ c) zero st = elim (act E i st) [ goes k st' ↦ counting (cost E i st) (exec E c k st') | halts e ↦ record { end = e; count = cost E i st } ]

-- the first n instructions of the code at the tick t, from no values held
abbrev pub runs_at : ℕ → List ℕ → ℕ → List ℕ → Ran
runs_at t code n memory = exec (memory_at t memory) (instructions code n) 0 []
