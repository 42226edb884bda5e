-- Pieces of code and what they give, put together: the machine's laws, in which no place is named.
use mathlib.Core.Path.{◌≡◌, refl, ap, ◌∙◌}
use mathlib.Core.Bool.{Bool, true, false, cond, beq}
use mathlib.Core.List.{List, [], ◌∷◌, ◌++◌, append_assoc}
use Prim.Native.Nat.{ℕ, zero, suc, ◌+◌, ◌<◌}
use native.Mathlib.Omega.{arith}
use lib.ListN.{length}
use borrow.Author.Tests.{lt-ltb}
use Rattle.values.specs.declared.Value.{Value}
use Rattle.values.specs.declared.Outcome.{Outcome}
use Rattle.values.specs.declared.Outcome.TheVariants.{Done, Stopped, WrongKind}
use Rattle.operators.specs.Operators.{truth_rule}
use Rattle.memory.specs.Environment.{Environment}
use Rattle.totals.specs.Totals.{then}
use Rattle.code.specs.declared.Instr.{Instr}
use Rattle.code.specs.declared.Instr.TheVariants.{Jump, JumpIf}
use Rattle.machine.specs.declared.Ended.{Ended}
use Rattle.machine.specs.declared.Ended.TheVariants as Ended
use Rattle.machine.specs.Machine.{max_height, Next, goes, halts, push_outcome, act, cost, exec}
use Rattle.machine.proofs.Laws.{onward}

-- how a run of c ends that skips k instructions and holds the values st
abbrev pub ends : Environment → List Instr → ℕ → List Value → Ended
ends E c k st = (exec E c k st).end

-- a value goes on into the code after it, anything else ends the run
abbrev pub into : Environment → Outcome → List Instr → List Value → Ended
into E (Done v) c st = ends E c 0 (v ∷ st)
into E (Stopped f) c st = Ended.Stopped f
into E WrongKind c st = Ended.Stuck

-- the code a, k instructions of it skipped, on the values st gives r on the values st', whatever code follows
pub record Gives (E : Environment) (a : List Instr) (k : ℕ) (st : List Value) (r : Outcome) (st' : List Value) : Type 0 where
  pub on : (c : List Instr) → ends E (a ++ c) k st ≡ into E r c st'

-- ---- the machine's laws
after : Environment → Next → List Instr → Ended
after E (goes k st) c = ends E c k st
after E (halts e) c = e

module _ (E : Environment) where
  step : (i : Instr) (c : List Instr) (st : List Value) → ends E (i ∷ c) 0 st ≡ after E (act E i st) c
  unfolding exec after
  step i c st = go (act E i st)
    where
      go : (x : Next) → (onward E (cost E i st) c x).end ≡ after E x c
      go (goes k st') = refl
      go (halts e) = refl

  given-into : (r : Outcome) (c : List Instr) (st : List Value) → length st < max_height → after E (push_outcome r st) c ≡ into E r c st
  unfolding after
  given-into (Done v) c st h = rw (lt-ltb (length st) max_height h)
  given-into (Stopped f) c st h = refl
  given-into WrongKind c st h = refl

  skips : (a c : List Instr) (k n : ℕ) (st : List Value) → n ≡ length a + k → ends E (a ++ c) n st ≡ ends E c k st
  unfolding exec
  skips [] c k n st e = ap (λ (m : ℕ). ends E c m st) (e ∙ omega arith)
  skips (i ∷ a) c k zero st e = absurd (omega arith)
  skips (i ∷ a) c k (suc n) st e = skips a c k n st (omega arith)

module _ {E : Environment} where
  -- ---- one instruction
  pub acts : {i : Instr} {st st' : List Value} {r : Outcome} → act E i st ≡ push_outcome r st' → length st' < max_height → Gives E (i ∷ []) 0 st r st'
  acts {i} {st} {st'} {r} e h = record { on = λ c. step E i c st ∙ ap (λ (x : Next). after E x c) e ∙ given-into E r c st' h }

  pub jumps : {a : List Instr} {k : ℕ} {st st' : List Value} {r : Outcome} → Gives E a k st r st' → Gives E (Jump k ∷ a) 0 st r st'
  unfolding exec
  jumps g = record { on = g.on }

  -- a jump on a value
  pub forks : {a : List Instr} {st st' : List Value} {r : Outcome} (d : Bool) (k : ℕ) (v : Value) → Gives E a (cond (beq (truth_rule v) d) k 0) st r st'
      → Gives E (JumpIf d k ∷ a) 0 (v ∷ st) r st'
  unfolding act after
  forks {a} {st} d k v g = record { on = λ c. step E (JumpIf d k) (a ++ c) (v ∷ st) ∙ go (beq (truth_rule v) d) (a ++ c) ∙ g.on c }
    where
      go : (b : Bool) (c : List Instr) → after E (cond b (goes k st) (goes 0 st)) c ≡ ends E c (cond b k 0) st
      go true c = refl
      go false c = refl

  -- ---- pieces: none, one after another, and one skipped
  pub held : {v : Value} {st : List Value} → Gives E [] 0 (v ∷ st) (Done v) st
  held = record { on = λ c. refl }

  pub seq : {a : List Instr} {k : ℕ} {st st₁ st₂ : List Value} {r : Outcome} (b : List Instr) (f : Value → Outcome) → Gives E a k st r st₁
      → ((v : Value) → r ≡ Done v → Gives E b 0 (v ∷ st₁) (f v) st₂) → Gives E (a ++ b) k st (then r f) st₂
  seq {a} {k} {st} {st₁} {st₂} {r} b f g h = record { on = λ c. ap (λ (l : List Instr). ends E l k st) (append_assoc a b c) ∙ g.on (b ++ c) ∙ go c r h }
    where
      go : (c : List Instr) (r : Outcome) → ((v : Value) → r ≡ Done v → Gives E b 0 (v ∷ st₁) (f v) st₂) → into E r (b ++ c) st₁ ≡ into E (then r f) c st₂
      go c (Done v) h = (h v refl).on c
      go c (Stopped x) h = refl
      go c WrongKind h = refl

  pub past : (a : List Instr) {b : List Instr} {k : ℕ} {st st' : List Value} {r : Outcome} → Gives E b k st r st' → Gives E (a ++ b) (length a + k) st r st'
  past a {b} {k} {st} g = record {
    on = λ c. ap (λ (l : List Instr). ends E l (length a + k) st) (append_assoc a b c)
        ∙ skips E a (b ++ c) k (length a + k) st refl ∙ g.on c;
  }
