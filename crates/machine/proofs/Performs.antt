-- The step of an instruction by its number in a class and its word: what the tests of each class come to.
use Rattle.std.specs.Prelude.{Option, Some, None}
use mathlib.Core.Path.{◌≡◌, refl, sym, ap, ◌∙◌}
use mathlib.Core.Bool.{Bool, true, false, not, ◌||◌, cond, beq}
use Prim.Native.Nat.{ℕ, ◌-◌, ◌≤◌, ◌<◌}
use lib.Dec.{eqb, ltb}
use lib.Ieee.{Float, nan, inf, fin, binary32, of_bits}
use lib.Ieee.Scale.{finite}
use borrow.Author.Tests.{lt-ltb, le-ltb, ne_eqb}
use Rattle.values.specs.declared.Value.{Value}
use Rattle.values.specs.declared.Value.TheVariants.{Int, Real}
use Rattle.values.specs.declared.Outcome.{Outcome}
use Rattle.values.specs.declared.Outcome.TheVariants.{WrongKind}
use Rattle.operators.specs.declared.UnaryOp.{UnaryOp}
use Rattle.operators.specs.Tables.{unary_of}
use Rattle.operators.specs.Operators.{unary_rule, since_rule, binary_rule, truth_rule}
use Rattle.operators.specs.Reals.{real_value, real_unary}
use Rattle.operators.specs.private.Admitted.{admitted}
use Rattle.operators.specs.private.Numbered.{binary_numbered}
use Rattle.memory.specs.declared.Bank.{Bank}
use Rattle.memory.specs.declared.Bank.TheVariants.{R}
use Rattle.memory.specs.declared.Layout.{Layout}
use Rattle.memory.specs.Layout.{layout_of}
use Rattle.memory.specs.Numbers.{bank_numbered}
use Rattle.memory.specs.Cells.{real_bank}
use Rattle.memory.specs.Environment.{Environment, indexed_cell}
use Rattle.code.specs.declared.Instr.{Instr}
use Rattle.code.specs.declared.Instr.TheVariants.{PushReal, Load, LoadIndexed, Unary, Binary, JumpIf, Since, Unknown}
use Rattle.code.specs.Instructions.{if_zero, finite_only, push_real, load_element, load_indexed, apply_since}
use Rattle.code.specs.private.Classes.{of_bank, of_unary, of_binary}
use Rattle.code.proofs.Finite.{finite-pushed, special-unknown}
use Rattle.machine.specs.declared.Step.{Step}
use Rattle.machine.specs.private.Steps.{stuck_step, skip_step, push_or_stuck, outcome_step, given_step, step_of, real_part, step_in, bank_step}
use Rattle.machine.proofs.Barred.{or-false, or-true}
use Rattle.operators.specs.declared.BinaryOp.{BinaryOp}

-- k is the layout of the bank that the code looks up
module _ (E : Environment) (h : ℕ) (b : Bank) (d : ℕ) {k : Layout} (is : k ≡ layout_of b) where
  pub in-bank : {x : Step} → d < k.elements → x ≡ outcome_step h (E.cell b d) → x ≡ bank_step E b d h
  in-bank p e = rw (lt-ltb d (layout_of b).elements (rw is at p)) e

  pub past-bank : k.elements ≤ d → stuck_step ≡ bank_step E b d h
  past-bank p = rw (le-ltb d (layout_of b).elements (rw is at p))

abbrev pub indexed : Option Bank → ℕ → Instr
indexed b = of_bank load_indexed b

-- ---- a word that must be 0
none_anyway : (t : Bool) → Unknown ≡ cond t Unknown Unknown
none_anyway true = refl
none_anyway false = refl

pub zero-indexed : (b : (Option Bank)) (d : ℕ) → indexed b d ≡ if_zero d (indexed b 0)
zero-indexed (Some b) d = refl
zero-indexed None d = none_anyway (eqb d 0)

pub zero-unary : (u : (Option UnaryOp)) (d : ℕ) → of_unary u d ≡ if_zero d (of_unary u 0)
zero-unary (Some o) d = refl
zero-unary None d = none_anyway (eqb d 0)

pub zero-binary : (u : (Option BinaryOp)) (d : ℕ) → of_binary u d ≡ if_zero d (of_binary u 0)
zero-binary (Some o) d = refl
zero-binary None d = none_anyway (eqb d 0)

-- an outcome that is none, whether or not it is admitted
wrong-anyway : (t : Bool) → WrongKind ≡ cond t WrongKind WrongKind
wrong-anyway true = refl
wrong-anyway false = refl

module _ (reals : Bool) (E : Environment) (h : ℕ) (l r : Value) where
  abbrev made : Instr → Step
  made i = step_in reals E i h l r

  -- ---- what is admitted makes the step of the full box, and what is not is stuck
  pub passes : (i : Instr) → (reals || not (real_part i l r)) ≡ true → step_of E i h l r ≡ made i
  passes i e = sym (ap (λ (t : Bool). cond t (step_of E i h l r) stuck_step) e)

  bars : (i : Instr) → (reals || not (real_part i l r)) ≡ false → stuck_step ≡ made i
  bars i e = sym (ap (λ (t : Bool). cond t (step_of E i h l r) stuck_step) e)

  pub stuck-in : (i : Instr) → stuck_step ≡ step_of E i h l r → stuck_step ≡ made i
  stuck-in i e = by (reals || not (real_part i l r))
    where
      by : (t : Bool) → stuck_step ≡ cond t (step_of E i h l r) stuck_step
      by true = e
      by false = refl

  full : (i : Instr) → reals ≡ true → step_of E i h l r ≡ made i
  full i e = passes i (ap (λ (t : Bool). t || not (real_part i l r)) e)

  pub free : (i : Instr) → real_part i l r ≡ false → step_of E i h l r ≡ made i
  free i e = passes i (ap (λ (t : Bool). reals || not t) e ∙ or-true reals)

  pub none_made : stuck_step ≡ made Unknown
  none_made = stuck-in Unknown refl

  -- ---- an instruction f whose word d, which the code finds to be a, must be 0
  module _ (f : ℕ → Instr) (d : ℕ) where
    pub spoilt : f d ≡ if_zero d (f 0) → {a : ℕ} → a ≡ d → (a ≡ 0 → ⊥) → stuck_step ≡ made (f d)
    spoilt z is p = rw (z, ne_eqb d 0 (λ e. p (is ∙ e))) none_made

    pub unspoilt : {a : ℕ} → a ≡ d → {x : Step} → a ≡ 0 → x ≡ made (f 0) → x ≡ made (f d)
    unspoilt is p e = rw (sym is ∙ p) e

    pub stuck-anyway : f d ≡ if_zero d (f 0) → stuck_step ≡ made (f 0) → stuck_step ≡ made (f d)
    stuck-anyway z e = rw z (by (eqb d 0))
      where
        by : (t : Bool) → stuck_step ≡ made (cond t (f 0) Unknown)
        by true = e
        by false = none_made

  pub unknown-made : (i : Instr) → i ≡ Unknown → stuck_step ≡ made i
  unknown-made i e = none_made ∙ ap made (sym e)

  -- ---- pushed singles
  pub finite-made : (n : ℕ) {x : Step} → reals ≡ true → finite (of_bits binary32 n) ≡ true
      → x ≡ push_or_stuck h (Real (of_bits binary32 n)) → x ≡ made (push_real n)
  finite-made n {x} t p e =
      let pushed : x ≡ step_of E (push_real n) h l r = rw (finite-pushed n p) e in
      pushed ∙ full (push_real n) t

  pub special-made : (n : ℕ) → finite (of_bits binary32 n) ≡ false → stuck_step ≡ made (push_real n)
  special-made n p = unknown-made (push_real n) (special-unknown n p)

  pub barred-made : (x : Float) → reals ≡ false → stuck_step ≡ made (finite_only x)
  barred-made nan e = none_made
  barred-made (inf s) e = none_made
  barred-made (fin s m k) e = bars (PushReal (fin s m k)) (ap (λ (t : Bool). t || false) e)

  -- ---- of too few values
  pub short-indexed : (b : Option Bank) → h < 1 → stuck_step ≡ made (indexed b 0)
  short-indexed (Some b) p = stuck-in (LoadIndexed b) (rw (lt-ltb h 1 p))
  short-indexed None p = none_made

  pub short-unary : (u : Option UnaryOp) → h < 1 → stuck_step ≡ made (of_unary u 0)
  short-unary (Some o) p = stuck-in (Unary o) (rw (lt-ltb h 1 p))
  short-unary None p = none_made

  pub short-binary : (u : Option BinaryOp) → h < 2 → stuck_step ≡ made (of_binary u 0)
  short-binary (Some o) p = stuck-in (Binary o) (rw (lt-ltb h 2 p))
  short-binary None p = none_made

  pub short-since : h < 1 → stuck_step ≡ made (apply_since 0)
  short-since p = stuck-in Since (rw (lt-ltb h 1 p))

  -- ---- of t values, to the outcome o where it is admitted, where the instruction i is j
  worked : (t : ℕ) (o : Outcome) {i j : Instr} {y : Outcome} {x : Step} → i ≡ j → step_of E j h l r ≡ given_step h t o → t ≤ h
      → y ≡ admitted reals (real_part j l r) o → x ≡ outcome_step (h - t) y → x ≡ made i
  worked t o {j = j} f g p d e = e ∙ ap (outcome_step (h - t)) d ∙ by (reals || not (real_part j l r)) ∙ ap made (sym f)
    where
      enough : outcome_step (h - t) o ≡ given_step h t o
      enough = rw (le-ltb h t p)

      by : (b : Bool) → outcome_step (h - t) (cond b o WrongKind) ≡ cond b (step_of E j h l r) stuck_step
      by true = enough ∙ sym g
      by false = refl

  pub indexed-made : (a : ℕ) (b : Bank) {y : Outcome} {x : Step} → bank_numbered a ≡ Some b → 1 ≤ h
      → y ≡ admitted reals (real_bank b || real_value r) (indexed_cell E b r) → x ≡ outcome_step (h - 1) y → x ≡ made (indexed (bank_numbered a) 0)
  indexed-made a b e = worked 1 (indexed_cell E b r) {j = LoadIndexed b} (ap (λ (u : (Option Bank)). indexed u 0) e) refl

  pub unary-made : (a : ℕ) (o : UnaryOp) {y : Outcome} {x : Step} → unary_of a ≡ Some o → 1 ≤ h
      → y ≡ admitted reals (real_unary o || real_value r) (unary_rule o r) → x ≡ outcome_step (h - 1) y → x ≡ made (of_unary (unary_of a) 0)
  unary-made a o e = worked 1 (unary_rule o r) {j = Unary o} (ap (λ (u : (Option UnaryOp)). of_unary u 0) e) refl

  -- a real is no operand of SINCE in the full box either
  since-admitted : (k : ℕ) (v : Value) → since_rule k v ≡ admitted reals (real_value v) (since_rule k v)
  since-admitted k (Int z) = sym (ap (λ (t : Bool). cond t (since_rule k (Int z)) WrongKind) (or-true reals))
  since-admitted k (Real x) = wrong-anyway (reals || false)

  pub since-made : {y : Outcome} {x : Step} → 1 ≤ h → y ≡ since_rule E.tick r → x ≡ outcome_step (h - 1) y → x ≡ made (apply_since 0)
  since-made p d e = worked 1 (since_rule E.tick r) {i = Since} {j = Since} refl refl p (d ∙ since-admitted E.tick r) e

  -- the operator of a number, which may be none
  pub binary-made : (u : (Option BinaryOp)) {y : Outcome} {x : Step} → 2 ≤ h → y ≡ admitted reals (real_value l || real_value r) (binary_numbered u l r)
      → x ≡ outcome_step (h - 2) y → x ≡ made (of_binary u 0)
  binary-made (Some o) p d e = worked 2 (binary_rule o l r) {i = Binary o} {j = Binary o} refl refl p d e
  binary-made None p d e =
      e ∙ ap (outcome_step (h - 2)) (d ∙ sym (wrong-anyway (reals || not (real_value l || real_value r)))) ∙ none_made

  -- ---- jumps, where b is the truth that the code finds
  pub unjumped : (t : Bool) (d : ℕ) → (reals || not (real_value r)) ≡ false → stuck_step ≡ made (JumpIf t d)
  unjumped t d = bars (JumpIf t d)

  module _ (t : Bool) (d : ℕ) {b : Bool} (enough : 1 ≤ h) (is : (reals || not (real_value r)) ≡ true) (found : b ≡ truth_rule r) where
    pub jumps : beq b t ≡ true → skip_step (h - 1) d ≡ made (JumpIf t d)
    jumps e =
        let full-step : skip_step (h - 1) d ≡ step_of E (JumpIf t d) h l r = rw (le-ltb h 1 enough, ← found, e) in
        full-step ∙ passes (JumpIf t d) is

    pub stays : beq b t ≡ false → skip_step (h - 1) 0 ≡ made (JumpIf t d)
    stays e =
        let full-step : skip_step (h - 1) 0 ≡ step_of E (JumpIf t d) h l r = rw (le-ltb h 1 enough, ← found, e) in
        full-step ∙ passes (JumpIf t d) is

  -- ---- loads
  pub from-bank : (a d : ℕ) (b : Bank) {x : Step} → bank_numbered a ≡ Some b → (reals || not (real_bank b)) ≡ true → x ≡ bank_step E b d h
      → x ≡ made (of_bank load_element (bank_numbered a) d)
  from-bank a d b e p f = f ∙ by (ltb d (layout_of b).elements) ∙ ap (λ (u : (Option Bank)). made (of_bank load_element u d)) (sym e)
    where
      by : (t : Bool) → cond t (outcome_step h (E.cell b d)) stuck_step ≡ made (cond t (Load b d) Unknown)
      by true = passes (Load b d) (ap (λ (t : Bool). reals || not t) (or-false (real_bank b)) ∙ p)
      by false = none_made

  pub from-reals : (a d : ℕ) → bank_numbered a ≡ Some R → reals ≡ false → stuck_step ≡ made (of_bank load_element (bank_numbered a) d)
  from-reals a d e p = by (ltb d (layout_of R).elements) ∙ ap (λ (u : (Option Bank)). made (of_bank load_element u d)) (sym e)
    where
      by : (t : Bool) → stuck_step ≡ made (cond t (Load R d) Unknown)
      by true = bars (Load R d) (ap (λ (t : Bool). t || false) p)
      by false = none_made

  pub no-load : (a d : ℕ) → 6 ≤ a → stuck_step ≡ made (of_bank load_element (bank_numbered a) d)
  no-load a d p =
      let e : bank_numbered a ≡ None = rw (le-ltb a 6 p) in
      none_made ∙ ap (λ (u : (Option Bank)). made (of_bank load_element u d)) (sym e)
