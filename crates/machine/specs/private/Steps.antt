-- How the code works out `act` on an array of which the first h values are held. For the contracts of the private functions; a reader believes Machine alone.
use Rattle.std.specs.Prelude.{◌≡◌, Bool, false, not, ◌||◌, cond, List, ℕ, zero, suc, ◌+◌, ◌-◌, eqb, ltb, pos, Option, Some, None}
use Rattle.std.specs.Bool.{beq}
use Rattle.values.specs.declared.Value.{Value}
use Rattle.values.specs.declared.Value.TheVariants.{Int, Real}
use Rattle.values.specs.declared.Fault.{Fault}
use Rattle.values.specs.declared.Fault.TheVariants.{Overflow}
use Rattle.values.specs.declared.Outcome.{Outcome}
use Rattle.values.specs.Patterns.{signed_of}
use Rattle.operators.specs.Operators.{unary_rule, since_rule, binary_rule, truth_rule}
use Rattle.operators.specs.Reals.{real_value}
use Rattle.memory.specs.declared.Bank.{Bank}
use Rattle.memory.specs.Layout.{layout_of}
use Rattle.memory.specs.Environment.{Environment, indexed_cell, memory_at}
use Rattle.memory.specs.Numbers.{bank_numbered}
use Rattle.totals.specs.declared.Visited.{Visited}
use Rattle.totals.specs.Totals.{total_over, match_over, good_range}
use Rattle.totals.specs.private.Admitted.{no_visit, total_in, match_in}
use Rattle.code.specs.declared.Instr.{Instr}
use Rattle.code.specs.declared.Instr.TheVariants.{PushInt, PushReal, Load, LoadIndexed, Unary, Binary, Jump, JumpIf, Tick, Since, Total, Match, Unknown}
use Rattle.code.specs.Instructions.{range_bank, range_first, range_count}
use Rattle.code.specs.Reals.{reads_real, makes_real, operand_count}
use Rattle.machine.specs.declared.Ended.{Ended}
use Rattle.machine.specs.declared.Ended.TheVariants.{Done, Stopped, Stuck}
use Rattle.machine.specs.declared.Ran.{Ran}
use Rattle.machine.specs.declared.How.{How}
use Rattle.machine.specs.declared.Step.{Step}
use Rattle.machine.specs.Machine.{max_height}
use Rattle.totals.specs.declared.MatchOp.{MatchOp}
use Rattle.totals.specs.declared.TotalOp.{TotalOp}

abbrev pub minimum : ℕ → ℕ → ℕ
minimum a b = cond (ltb a b) a b

-- ---- the four kinds of step
abbrev pub stuck_step : Step
stuck_step = record { how = How.Stuck; height = 0; skip = 0; value = Int (pos 0); fault = Overflow }

abbrev pub stop_step : Fault → Step
stop_step f = record { how = How.Stop; height = 0; skip = 0; value = Int (pos 0); fault = f }

abbrev pub skip_step : ℕ → ℕ → Step
skip_step k d = record { how = How.Skip; height = k; skip = d; value = Int (pos 0); fault = Overflow }

abbrev pub push_step : ℕ → Value → Step
push_step k v = record { how = How.Push; height = k; skip = 0; value = v; fault = Overflow }

-- a value on k others, where there is room
abbrev pub push_or_stuck : ℕ → Value → Step
push_or_stuck k v = cond (ltb k max_height) (push_step k v) stuck_step

-- ---- the step of an instruction
-- t of h values are taken: stuck where there are fewer
abbrev pub taking : ℕ → ℕ → Step → Step
taking h t x = cond (ltb h t) stuck_step x

abbrev pub outcome_step : ℕ → Outcome → Step
outcome_step k (Outcome.Done v) = push_or_stuck k v
outcome_step k (Outcome.Stopped f) = stop_step f
outcome_step k Outcome.WrongKind = stuck_step

-- an outcome worked out from the t last of h values
abbrev pub given_step : ℕ → ℕ → Outcome → Step
given_step h t o = taking h t (outcome_step (h - t) o)

-- a jump over d instructions if the truth of v, the last of h values, is t
abbrev pub jump_step : ℕ → Value → Bool → ℕ → Step
jump_step h v t d = taking h 1 (cond (beq (truth_rule v) t) (skip_step (h - 1) d) (skip_step (h - 1) 0))

-- l and r are the two last of h values
abbrev pub step_of : Environment → Instr → ℕ → Value → Value → Step
step_of E (PushInt z) h l r = push_or_stuck h (Int z)
step_of E (PushReal x) h l r = push_or_stuck h (Real x)
step_of E (Load b i) h l r = outcome_step h (E.cell b i)
step_of E (LoadIndexed b) h l r = given_step h 1 (indexed_cell E b r)
step_of E (Unary o) h l r = given_step h 1 (unary_rule o r)
step_of E (Binary o) h l r = given_step h 2 (binary_rule o l r)
step_of E (Jump d) h l r = skip_step h d
step_of E (JumpIf t d) h l r = jump_step h r t d
step_of E Tick h l r = push_or_stuck h (Int (signed_of 32 E.tick))
step_of E Since h l r = given_step h 1 (since_rule E.tick r)
step_of E (Total o b i n) h l r = outcome_step h (total_over E o b i n).result
step_of E (Match o b i n) h l r = given_step h 1 (match_over E o r b i n).result
step_of E Unknown h l r = stuck_step

-- ---- with reals, or in the profile without them
-- a real among the n values that are taken, at most two, of which l and r are the last
abbrev pub real_taken : ℕ → Value → Value → Bool
real_taken zero l r = false
real_taken (suc zero) l r = real_value r
real_taken (suc (suc n)) l r = real_value l || real_value r

-- something real has a part in it
abbrev pub real_part : Instr → Value → Value → Bool
real_part i l r = reads_real i || (makes_real i || real_taken (operand_count i) l r)

-- without reals such an instruction is stuck
abbrev pub step_in : Bool → Environment → Instr → ℕ → Value → Value → Step
step_in reals E i h l r = cond (reals || not (real_part i l r)) (step_of E i h l r) stuck_step

-- x is the step of an instruction that takes no value, wherever it is run; that takes the last value, r; that takes the two last
abbrev pub IsStep : Bool → Instr → ℕ → Step → Type 0
IsStep reals i h x = (E : Environment) (l r : Value) → x ≡ step_in reals E i h l r

abbrev pub IsStepOn : Bool → Instr → ℕ → Value → Step → Type 0
IsStepOn reals i h r x = (E : Environment) (l : Value) → x ≡ step_in reals E i h l r

abbrev pub IsStepOnBoth : Bool → Instr → ℕ → Value → Value → Step → Type 0
IsStepOnBoth reals i h l r x = (E : Environment) → x ≡ step_in reals E i h l r

-- the same in the memory m at any tick, for the two that read it
abbrev pub IsLoad : Bool → List ℕ → Instr → ℕ → Step → Type 0
IsLoad reals m i h x = (t : ℕ) (l r : Value) → x ≡ step_in reals (memory_at t m) i h l r

abbrev pub IsLoadOn : Bool → List ℕ → Instr → ℕ → Value → Step → Type 0
IsLoadOn reals m i h r x = (t : ℕ) (l : Value) → x ≡ step_in reals (memory_at t m) i h l r

-- the same at the tick t in any memory, with reals or without, for the two that see it
abbrev pub IsTick : ℕ → Instr → ℕ → Step → Type 0
IsTick t i h x = (reals : Bool) (m : List ℕ) (l r : Value) → x ≡ step_in reals (memory_at t m) i h l r

abbrev pub IsTickOn : ℕ → Instr → ℕ → Value → Step → Type 0
IsTickOn t i h r x = (reals : Bool) (m : List ℕ) (l : Value) → x ≡ step_in reals (memory_at t m) i h l r

-- ---- what going over a range comes to: where there is no range, no operator or no value to compare with, no visit
abbrev pub bank_visit : (Bank → ℕ → ℕ → Visited) → Option Bank → ℕ → ℕ → Visited
bank_visit f (Some b) i n = cond (good_range b i n) (f b i n) no_visit
bank_visit f None i n = no_visit

-- over the range of the word w
abbrev pub word_visit : (Bank → ℕ → ℕ → Visited) → ℕ → Visited
word_visit f w = bank_visit f (bank_numbered (range_bank w)) (range_first w) (range_count w)

-- the range of the word w is n cells of the bank b from i on
pub record IsRange (w : ℕ) (b : Bank) (i n : ℕ) : Type 0 where
  pub bank : bank_numbered (range_bank w) ≡ Some b
  pub first : i ≡ range_first w
  pub count : n ≡ range_count w

-- it has none, or its bank lacks some
abbrev pub NoRange : ℕ → Type 0
NoRange w = (f : Bank → ℕ → ℕ → Visited) → word_visit f w ≡ no_visit

abbrev pub total_visit : Bool → Environment → Option TotalOp → ℕ → Visited
total_visit reals E (Some o) w = word_visit (total_in reals E o) w
total_visit reals E None w = no_visit

abbrev pub match_visit : Bool → Environment → Option MatchOp → Value → ℕ → Visited
match_visit reals E (Some o) v w = word_visit (match_in reals E o v) w
match_visit reals E None v w = no_visit

-- with the last of h values
abbrev pub on_last : ℕ → Visited → Visited
on_last h x = cond (ltb h 1) no_visit x

-- x is what going over a range in the memory m comes to, at any tick
abbrev pub IsVisit : List ℕ → (Environment → Visited) → Visited → Type 0
IsVisit m f x = (t : ℕ) → x ≡ f (memory_at t m)

-- a load from the bank, of an element that may be beyond it
abbrev pub bank_step : Environment → Bank → ℕ → ℕ → Step
bank_step E b i h = cond (ltb i (layout_of b).elements) (outcome_step h (E.cell b i)) stuck_step

-- ---- ends
-- k instructions begun
abbrev pub ended_at : ℕ → Ended → Ran
ended_at k e = record { end = e; count = k }

abbrev pub stuck_at : ℕ → Ran
stuck_at k = ended_at k Stuck

abbrev pub failed_at : How → Fault → ℕ → Ran
failed_at How.Push f k = stuck_at k
failed_at How.Skip f k = stuck_at k
failed_at How.Stop f k = ended_at k (Stopped f)
failed_at How.Stuck f k = stuck_at k

-- h values held, the first of them v
abbrev pub finish_of : ℕ → Value → Ended
finish_of h v = cond (eqb h 1) (Done v) Stuck

-- at the place p, where the code has no instruction
abbrev pub finished_at : ℕ → ℕ → ℕ → Value → ℕ → Ran
finished_at n p h v k = cond (ltb n p) (stuck_at k) (cond (ltb p n) (stuck_at (k + 1)) (ended_at k (finish_of h v)))
