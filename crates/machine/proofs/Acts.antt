-- `act` as the code works it out, on the values held in an array: what an instruction leads to, and the step that the code makes of it.
use mathlib.Core.Path.{◌≡◌, refl}
use mathlib.Core.Bool.{Bool, true, false, cond, beq}
use mathlib.Core.List.{List, ◌∷◌}
use Prim.Native.Nat.{ℕ, zero, suc, ◌-◌, ◌≤◌, ◌<◌}
use native.Mathlib.Omega.{arith}
use lib.Dec.{ltb}
use lib.ListN.{get_or}
use borrow.Author.Tests.{le-ltb, ltb-true}
use Rattle.values.specs.declared.Value.{Value}
use Rattle.values.specs.declared.Fault.{Fault}
use Rattle.values.specs.declared.Outcome.{Outcome}
use Rattle.operators.specs.Operators.{unary_rule, since_rule, binary_rule, truth_rule}
use Rattle.memory.specs.Environment.{Environment, indexed_cell}
use Rattle.totals.specs.Totals.{total_over, match_over}
use Rattle.code.specs.declared.Instr.{Instr}
use Rattle.code.specs.declared.Instr.TheVariants.{PushInt, PushReal, Load, LoadIndexed, Unary, Binary, Jump, JumpIf, Tick, Since, Total, Match, Unknown}
use Rattle.machine.specs.declared.Ended.TheVariants.{Stopped, Stuck}
use Rattle.machine.specs.declared.Step.{Step}
use Rattle.machine.specs.Machine.{max_height, Next, goes, halts, push_value, push_outcome, act}
use Rattle.machine.specs.private.Steps.{stuck_step, stop_step, skip_step, push_step, push_or_stuck, taking, outcome_step, given_step, step_of}
use Rattle.machine.proofs.Held.{none, held, length-held}

-- of h values in the array s
pub data Leads (s : List Value) (h : ℕ) : Next → Step → Type 0 where
  push : (k : ℕ) (v : Value) → k ≤ h → k < max_height → Leads s h (goes 0 (v ∷ held k s)) (push_step k v)
  skip : (k d : ℕ) → k ≤ h → Leads s h (goes d (held k s)) (skip_step k d)
  stop : (f : Fault) → Leads s h (halts (Stopped f)) (stop_step f)
  stick : Leads s h (halts Stuck) stuck_step

pub last : (h : ℕ) → suc h - 1 ≡ h
last h = omega arith

module _ (s : List Value) (h : ℕ) where
  push-leads : (k : ℕ) (v : Value) → k ≤ h → Leads s h (push_value v (held k s)) (push_or_stuck k v)
  push-leads k v p = rw (length-held k s) (by (ltb k max_height) refl)
    where
      by : (t : Bool) → ltb k max_height ≡ t → Leads s h (cond t (goes 0 (v ∷ held k s)) (halts Stuck)) (cond t (push_step k v) stuck_step)
      by true e = push k v p (ltb-true k max_height e)
      by false e = stick

  given-leads : (k : ℕ) (o : Outcome) → k ≤ h → Leads s h (push_outcome o (held k s)) (outcome_step k o)
  given-leads k (Outcome.Done v) p = push-leads k v p
  given-leads k (Outcome.Stopped f) p = stop f
  given-leads k Outcome.WrongKind p = stick

  jump-leads : (k d : ℕ) (t : Bool) → k ≤ h → Leads s h (cond t (goes d (held k s)) (goes 0 (held k s))) (cond t (skip_step k d) (skip_step k 0))
  jump-leads k d true p = skip k d p
  jump-leads k d false p = skip k 0 p

  -- t of the values are taken, and k kept
  taken-leads : (k t : ℕ) (o : Outcome) → t ≤ h → k ≤ h → Leads s h (push_outcome o (held k s)) (taking h t (outcome_step k o))
  taken-leads k t o q p = rw (le-ltb h t q) (given-leads k o p)

module _ (E : Environment) (s : List Value) where
  one-leads : (h : ℕ) (f : Value → Outcome) → Leads s (suc h) (push_outcome (f (get_or s h none)) (held h s)) (given_step (suc h) 1 (f (get_or s (suc h - 1) none)))
  one-leads h f = rw (last h) (taken-leads s (suc h) h 1 (f (get_or s h none)) (omega arith) (omega arith))

  pub leads : (i : Instr) (h : ℕ) → Leads s h (act E i (held h s)) (step_of E i h (get_or s (h - 2) none) (get_or s (h - 1) none))
  unfolding act held
  leads (PushInt z) h = push-leads s h h _ (omega arith)
  leads (PushReal x) h = push-leads s h h _ (omega arith)
  leads (Load c e) h = given-leads s h h (E.cell c e) (omega arith)
  leads (LoadIndexed c) zero = stick
  leads (LoadIndexed c) (suc h) = one-leads h (indexed_cell E c)
  leads (Unary o) zero = stick
  leads (Unary o) (suc h) = one-leads h (unary_rule o)
  leads (Binary o) zero = stick
  leads (Binary o) (suc zero) = stick
  leads (Binary o) (suc (suc h)) =
      let d : suc (suc h) - 2 ≡ h = omega arith in
      rw (d, last (suc h)) (taken-leads s (suc (suc h)) h 2 (binary_rule o (get_or s h none) (get_or s (suc h) none)) (omega arith) (omega arith))
  leads (Jump d) h = skip h d (omega arith)
  leads (JumpIf t d) zero = stick
  leads (JumpIf t d) (suc h) =
      rw (le-ltb (suc h) 1 (omega arith), last h) (jump-leads s (suc h) h d (beq (truth_rule (get_or s h none)) t) (omega arith))
  leads Tick h = push-leads s h h _ (omega arith)
  leads Since zero = stick
  leads Since (suc h) = one-leads h (since_rule E.tick)
  leads (Total o b i n) h = given-leads s h h (total_over E o b i n).result (omega arith)
  leads (Match o b i n) zero = stick
  leads (Match o b i n) (suc h) = one-leads h (λ v. (match_over E o v b i n).result)
  leads Unknown h = stick
