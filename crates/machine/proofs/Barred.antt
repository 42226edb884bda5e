-- The machine with or without reals: what an instruction leads to and what it counts are those of the full box, or it is barred; and so is the step that the
-- code makes of it.
use mathlib.Core.Path.{◌≡◌, refl, sym, ap, ◌∙◌, subst}
use mathlib.Core.Bool.{Bool, true, false, not, ◌||◌, cond}
use mathlib.Core.List.{List}
use Prim.Native.Nat.{ℕ, zero, suc, ◌-◌, ◌≤◌}
use native.Mathlib.Omega.{arith}
use lib.ListN.{get_or}
use Rattle.values.specs.declared.Value.{Value}
use Rattle.operators.specs.Reals.{real_value, real_unary}
use Rattle.memory.specs.Cells.{real_bank}
use Rattle.memory.specs.Environment.{Environment}
use Rattle.totals.specs.Totals.{real_total}
use Rattle.code.specs.declared.Instr.{Instr}
use Rattle.code.specs.declared.Instr.TheVariants.{PushInt, PushReal, Load, LoadIndexed, Unary, Binary, Jump, JumpIf, Tick, Since, Total, Match, Unknown}
use Rattle.machine.specs.declared.Ended.TheVariants.{Stuck}
use Rattle.machine.specs.declared.Step.{Step}
use Rattle.machine.specs.Machine.{Next, halts, act, cells_begun, cost, range_cells}
use Rattle.machine.specs.Profile.{real_among, barred, act_in, cost_in}
use Rattle.machine.specs.private.Steps.{stuck_step, real_part, step_in}
use Rattle.machine.proofs.Held.{none, held}
use Rattle.machine.proofs.Acts.{Leads, stick, last, leads}
use Rattle.machine.proofs.Laws.{begun-most, cost-is}

pub or-false : (b : Bool) → (b || false) ≡ b
or-false true = refl
or-false false = refl

pub or-true : (b : Bool) → (b || true) ≡ true
or-true true = refl
or-true false = refl

-- ---- what it counts

-- the cells that it begins
abbrev pub begun_in : Bool → Environment → Instr → List Value → ℕ
begun_in reals E i st = cond (reals || not (barred i st)) (cells_begun E i st) 0

pub cost-in : (reals : Bool) (E : Environment) (i : Instr) (st : List Value) → cost_in reals E i st ≡ suc (begun_in reals E i st)
cost-in true E i st = cost-is E i st
cost-in false E i st = by (barred i st)
  where
    by : (t : Bool) → cond t 1 (cost E i st) ≡ suc (cond (not t) (cells_begun E i st) 0)
    by true = refl
    by false = cost-is E i st

pub begun-in-most : (reals : Bool) (E : Environment) (i : Instr) (st : List Value) → begun_in reals E i st ≤ range_cells i
begun-in-most reals E i st = by (reals || not (barred i st))
  where
    by : (t : Bool) → cond t (cells_begun E i st) 0 ≤ range_cells i
    by true = begun-most E i st
    by false = omega arith

-- ---- what it leads to

module _ {s : List Value} {h : ℕ} where
  gate : (t : Bool) {y : Next} {x : Step} → Leads s h y x → Leads s h (cond t (halts Stuck) y) (cond (not t) x stuck_step)
  gate true L = stick
  gate false L = L

  gate-by : (t u : Bool) → t ≡ u → {y : Next} {x : Step} → Leads s h y x → Leads s h (cond t (halts Stuck) y) (cond (not u) x stuck_step)
  gate-by t u e {y} {x} L = subst (λ (b : Bool). Leads s h (cond t (halts Stuck) y) (cond (not b) x stuck_step)) e (gate t L)

  stick-anyway : (t u : Bool) → Leads s h (cond t (halts Stuck) (halts Stuck)) (cond (not u) stuck_step stuck_step)
  stick-anyway true true = stick
  stick-anyway true false = stick
  stick-anyway false true = stick
  stick-anyway false false = stick

or_swap : (a b : Bool) → (a || (b || false)) ≡ (b || a)
or_swap true b = sym (or-true b)
or_swap false b = refl

module _ (s : List Value) where
  one-taken : (h : ℕ) → real_among 1 (held (suc h) s) ≡ real_value (get_or s (suc h - 1) none)
  unfolding held
  one-taken h = or-false (real_value (get_or s h none)) ∙ ap (λ (j : ℕ). real_value (get_or s j none)) (sym (last h))

  two-taken : (h : ℕ) → real_among 2 (held (suc (suc h)) s) ≡ (real_value (get_or s (suc (suc h) - 2) none) || real_value (get_or s (suc (suc h) - 1) none))
  unfolding held
  two-taken h =
      let d : h ≡ suc (suc h) - 2 = omega arith in
      or_swap (real_value (get_or s (suc h) none)) (real_value (get_or s h none))
      ∙ ap (λ (j : ℕ). real_value (get_or s j none) || real_value (get_or s (suc h) none)) d
      ∙ ap (λ (j : ℕ). real_value (get_or s (suc (suc h) - 2) none) || real_value (get_or s j none)) (sym (last (suc h)))

module _ (E : Environment) (s : List Value) where
  abbrev top : ℕ → Value
  top h = get_or s (h - 1) none

  abbrev next : ℕ → Value
  next h = get_or s (h - 2) none

  -- without reals
  leads-barred : (i : Instr) (h : ℕ) → Leads s h (act_in false E i (held h s)) (step_in false E i h (next h) (top h))
  unfolding act held
  leads-barred (PushInt z) h = leads E s (PushInt z) h
  leads-barred (PushReal x) h = stick
  leads-barred (Load b i) h = gate (real_bank b || false) (leads E s (Load b i) h)
  leads-barred (LoadIndexed b) zero = stick-anyway (real_bank b || false) (real_bank b || real_value (top 0))
  leads-barred (LoadIndexed b) (suc h) = gate-by _ _ (ap (λ (t : Bool). real_bank b || t) (one-taken s h)) (leads E s (LoadIndexed b) (suc h))
  leads-barred (Unary o) zero = stick-anyway (real_unary o || false) (real_unary o || real_value (top 0))
  leads-barred (Unary o) (suc h) = gate-by _ _ (ap (λ (t : Bool). real_unary o || t) (one-taken s h)) (leads E s (Unary o) (suc h))
  leads-barred (Binary o) zero = stick-anyway false (real_value (next 0) || real_value (top 0))
  leads-barred (Binary o) (suc zero) = stick-anyway (real_among 2 (held 1 s)) (real_value (next 1) || real_value (top 1))
  leads-barred (Binary o) (suc (suc h)) = gate-by _ _ (two-taken s h) (leads E s (Binary o) (suc (suc h)))
  leads-barred (Jump d) h = leads E s (Jump d) h
  leads-barred (JumpIf t d) zero = stick-anyway false (real_value (top 0))
  leads-barred (JumpIf t d) (suc h) = gate-by _ _ (one-taken s h) (leads E s (JumpIf t d) (suc h))
  leads-barred Tick h = leads E s Tick h
  leads-barred Since zero = stick-anyway false (real_value (top 0))
  leads-barred Since (suc h) = gate-by _ _ (one-taken s h) (leads E s Since (suc h))
  leads-barred (Total o b i n) h = gate (real_bank b || (real_total o || false)) (leads E s (Total o b i n) h)
  leads-barred (Match o b i n) zero = stick-anyway (real_bank b || false) (real_bank b || real_value (top 0))
  leads-barred (Match o b i n) (suc h) = gate-by _ _ (ap (λ (t : Bool). real_bank b || t) (one-taken s h)) (leads E s (Match o b i n) (suc h))
  leads-barred Unknown h = stick

  pub leads-in : (reals : Bool) (i : Instr) (h : ℕ) → Leads s h (act_in reals E i (held h s)) (step_in reals E i h (next h) (top h))
  leads-in true i h = leads E s i h
  leads-in false i h = leads-barred i h

-- ---- a value that is not there to be taken does not matter

stuck-anyhow : (t u : Bool) → cond t stuck_step stuck_step ≡ cond u stuck_step stuck_step
stuck-anyhow true true = refl
stuck-anyhow true false = refl
stuck-anyhow false true = refl
stuck-anyhow false false = refl

module _ (reals : Bool) (E : Environment) {l l' r r' : Value} where
  pub regardless : (i : Instr) (h : ℕ) → (2 ≤ h → l ≡ l') → (1 ≤ h → r ≡ r') → step_in reals E i h l r ≡ step_in reals E i h l' r'
  regardless (PushInt z) h p q = refl
  regardless (PushReal x) h p q = refl
  regardless (Load b i) h p q = refl
  regardless (LoadIndexed b) zero p q = stuck-anyhow (reals || not (real_part (LoadIndexed b) l r)) (reals || not (real_part (LoadIndexed b) l' r'))
  regardless (LoadIndexed b) (suc h) p q = ap (λ (v : Value). step_in reals E (LoadIndexed b) (suc h) l v) (q (omega arith))
  regardless (Unary o) zero p q = stuck-anyhow (reals || not (real_part (Unary o) l r)) (reals || not (real_part (Unary o) l' r'))
  regardless (Unary o) (suc h) p q = ap (λ (v : Value). step_in reals E (Unary o) (suc h) l v) (q (omega arith))
  regardless (Binary o) zero p q = stuck-anyhow (reals || not (real_part (Binary o) l r)) (reals || not (real_part (Binary o) l' r'))
  regardless (Binary o) (suc zero) p q = stuck-anyhow (reals || not (real_part (Binary o) l r)) (reals || not (real_part (Binary o) l' r'))
  regardless (Binary o) (suc (suc h)) p q =
      ap (λ (v : Value). step_in reals E (Binary o) (suc (suc h)) l v) (q (omega arith))
      ∙ ap (λ (v : Value). step_in reals E (Binary o) (suc (suc h)) v r') (p (omega arith))
  regardless (Jump d) h p q = refl
  regardless (JumpIf t d) zero p q = stuck-anyhow (reals || not (real_part (JumpIf t d) l r)) (reals || not (real_part (JumpIf t d) l' r'))
  regardless (JumpIf t d) (suc h) p q = ap (λ (v : Value). step_in reals E (JumpIf t d) (suc h) l v) (q (omega arith))
  regardless Tick h p q = refl
  regardless Since zero p q = stuck-anyhow (reals || not (real_part Since l r)) (reals || not (real_part Since l' r'))
  regardless Since (suc h) p q = ap (λ (v : Value). step_in reals E Since (suc h) l v) (q (omega arith))
  regardless (Total o b i n) h p q = refl
  regardless (Match o b i n) zero p q = stuck-anyhow (reals || not (real_part (Match o b i n) l r)) (reals || not (real_part (Match o b i n) l' r'))
  regardless (Match o b i n) (suc h) p q = ap (λ (v : Value). step_in reals E (Match o b i n) (suc h) l v) (q (omega arith))
  regardless Unknown h p q = refl
