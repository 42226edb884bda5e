-- The machine of the full box (reals true) and of the profile (false): there an instruction that reads R, leaves a real or takes one is stuck, and begins no
-- cell. On code that the profile's check accepts none does.
use Rattle.std.specs.Prelude.{◌≡◌, ◌⊎◌, Bool, true, false, ◌||◌, cond, List, [], ◌∷◌, ℕ, zero, suc, ◌≤◌}
use Rattle.values.specs.declared.Value.{Value}
use Rattle.operators.specs.Reals.{real_value}
use Rattle.memory.specs.Environment.{Environment, memory_at}
use Rattle.code.specs.declared.Instr.{Instr}
use Rattle.code.specs.Instructions.{instructions}
use Rattle.code.specs.Reals.{reads_real, makes_real, operand_count}
use Rattle.machine.specs.declared.Ended.TheVariants.{Done, Stuck}
use Rattle.machine.specs.declared.Ran.{Ran}
use Rattle.machine.specs.Machine.{Next, goes, halts, act, cost, finish, counting, exec}

-- a real among the last n values held
abbrev pub real_among : ℕ → List Value → Bool
real_among zero st = false
real_among (suc n) [] = false
real_among (suc n) (v ∷ st) = real_value v || real_among n st

abbrev pub barred : Instr → List Value → Bool
barred i st = reads_real i || (makes_real i || real_among (operand_count i) st)

abbrev pub act_in : Bool → Environment → Instr → List Value → Next
act_in true E i st = act E i st
act_in false E i st = cond (barred i st) (halts Stuck) (act E i st)

abbrev pub cost_in : Bool → Environment → Instr → List Value → ℕ
cost_in true E i st = cost E i st
cost_in false E i st = cond (barred i st) 1 (cost E i st)

-- the instructions left, how many of them to skip, the values held
unfoldable pub exec_in : Bool → Environment → List Instr → ℕ → List Value → Ran
unfolding act cost
exec_in reals E [] zero st = record { end = finish st; count = 0 }
exec_in reals E [] (suc k) st = record { end = Stuck; count = 0 }
exec_in reals E (i ∷ c) (suc k) st = exec_in reals E c k st
exec_in reals E (i ∷ c) zero st =
    elim (act_in reals E i st) [
      | goes k st' ↦ counting (cost_in reals E i st) (exec_in reals E c k st')
      | halts e ↦ record { end = e; count = cost_in reals E i st }
    ]

-- the first n instructions of the code at the tick t, from no values held
abbrev pub runs_in : Bool → ℕ → List ℕ → ℕ → List ℕ → Ran
runs_in reals t code n memory = exec_in reals (memory_at t memory) (instructions code n) 0 []

-- what a run with or without reals is to that of the full box: proofs/Profile.antt proves the record
pub record ProfileRuns : Type 0 where
  pub full : (E : Environment) (c : List Instr) (d : ℕ) (st : List Value) → exec_in true E c d st ≡ exec E c d st
  -- it is the full box's, or it is stuck on the way
  pub either : (reals : Bool) (E : Environment) (c : List Instr) (d : ℕ) (st : List Value)
      → (exec_in reals E c d st ≡ exec E c d st) ⊎ (((exec_in reals E c d st).end ≡ Stuck) × ((exec_in reals E c d st).count ≤ (exec E c d st).count))
  -- without reals its value is an integer, whatever the code and the memory
  pub integer : (t : ℕ) (code : List ℕ) (n : ℕ) (m : List ℕ) (v : Value) → (runs_in false t code n m).end ≡ Done v → real_value v ≡ false
