-- Checks and runs, with reals or without: accepted code is short, and what `run_in` answers and writes.
use Rattle.std.specs.Prelude.{Option, Some, None}
use mathlib.Core.Path.{◌≡◌, refl, sym, ap, subst, ◌∙◌}
use mathlib.Core.Bool.{Bool, true, false, not, ◌||◌, cond}
use mathlib.Core.List.{List}
use Prim.Native.Nat.{ℕ, ◌≤◌}
use native.Mathlib.Omega.{arith}
use lib.ListN.{length}
use Rattle.values.specs.declared.Kind.{Kind}
use Rattle.memory.specs.declared.Bank.{Bank}
use Rattle.memory.specs.Layout.{image_size}
use Rattle.profile.specs.Parts.{real_bank}
use Rattle.profile.proofs.Tests.{false-true}
use Rattle.code.specs.Instructions.{instructions}
use Rattle.code.proofs.Parts.{decode-length}
use Rattle.machine.specs.declared.Ran.{Ran}
use Rattle.machine.specs.Profile.{runs_in}
use Rattle.verifier.specs.Profile.{verdict_in}
use Rattle.verifier.proofs.Profile.{profile-verdicts}
use Rattle.targets.specs.declared.Element.{Element}
use Rattle.targets.specs.declared.Element.TheVariants.{Is, By}
use Rattle.targets.specs.Found.{taken_found, run_target_in}
use Rattle.delivery.specs.declared.Answer.{Answer}
use Rattle.delivery.specs.declared.Answer.TheVariants.{Refused}
use Rattle.operations.specs.Operations.{verdict_answer, to, none, is_accepted, finished, memory_after}
use Rattle.operations.specs.Profile.{check_answer_for, arrival_for, index_passes_for, goal_of_for, goal_for, ran_answer_for, ran_memory_for, run_answer_for}
use Rattle.operations.specs.Profile.{run_memory_for}
use Rattle.delivery.specs.private.Bounds.{Few, none as no_code, some}
use Rattle.operations.proofs.Verdicts.{wrong_size, right-size, Finishes}
use Rattle.targets.proofs.Pairs.{first}

-- ---- the check

module _ (reals : Bool) (code : List ℕ) (n : ℕ) where
  pub checked : {v w : (Option Kind)} → v ≡ verdict_in reals (instructions code n) → v ≡ w → verdict_answer w ≡ check_answer_for reals code n
  checked f e = ap verdict_answer (sym e ∙ f)

  -- no more instructions than the check accepts
  pub few-accepted : {k : Kind} → verdict_in reals (instructions code n) ≡ Some k → n ≤ 2048
  few-accepted {k} e = omega (arith, ((profile-verdicts.exact reals (instructions code n) k).0 e).few, decode-length code 0 n)

-- index code that is checked is short
pub few-checked : (reals : Bool) (index : List ℕ) (e : Element) → index_passes_for reals index e ≡ true → Few e
few-checked reals index (Is i) h = no_code
few-checked reals index (By k) h = by (verdict_in reals (instructions index k)) refl h
  where
    by : (v : Option Kind) → verdict_in reals (instructions index k) ≡ v → is_accepted v ≡ true → Few (By k)
    by (Some j) q h = some (few-accepted reals index k q)
    by None q h = false-true h

-- ---- without reals a target of a real bank is none

pub found-bank : (reals : Bool) (f : (Option (Bank × Element))) {b : Bank} {e : Element} → taken_found reals f ≡ Some (b, e) → (reals || not (real_bank b)) ≡ true
found-bank true f q = refl
found-bank false (Some (c, d)) {b} {e} q = by (real_bank c) refl q
  where
    by : (r : Bool) → real_bank c ≡ r → cond {A = Option (Bank × Element)} r None (Some (c, d)) ≡ Some (b, e) → not (real_bank b) ≡ true
    by true h q = let z : ◌≡◌ {A = ℕ} 0 1 = cc in absurd (omega arith)
    by false h q = subst (λ b. not (real_bank b) ≡ true) (first q) (ap not h)
found-bank false None q = let z : ◌≡◌ {A = ℕ} 0 1 = cc in absurd (omega arith)

-- ---- run

module _ (reals : Bool) (code : List ℕ) (n : ℕ) (target index : List ℕ) (k : ℕ) (m : List ℕ) where
  pub no-memory : (length m ≡ image_size → ⊥) → goal_for reals code n target index k m ≡ none 1
  no-memory h = wrong_size m (goal_of_for reals index (verdict_in reals (instructions code n)) (run_target_in reals k target)) h

  pub named : {x : (Option (Bank × Element))} {v : (Option Kind)} → length m ≡ image_size → run_target_in reals k target ≡ x → verdict_in reals (instructions code n) ≡ v
      → goal_for reals code n target index k m ≡ goal_of_for reals index v x
  named {x} h e q =
      right-size m (goal_of_for reals index (verdict_in reals (instructions code n)) (run_target_in reals k target)) h
      ∙ ap (goal_of_for reals index (verdict_in reals (instructions code n))) e ∙ ap (λ v. goal_of_for reals index v x) q

  pub aimed : {b : Bank} {e : Element} {v : (Option Kind)} {j : Kind} {p : Bool} → length m ≡ image_size → run_target_in reals k target ≡ Some (b, e)
      → verdict_in reals (instructions code n) ≡ v → v ≡ Some j → index_passes_for reals index e ≡ p
      → goal_for reals code n target index k m ≡ cond p (to b e) (none 15)
  aimed {b} {e} h f q a r = named h f (q ∙ a) ∙ ap (λ p. cond p (to b e) (none 15)) r

  module _ (tick : ℕ) where
    -- r and m' are what run gives
    abbrev Gives : List ℕ → Answer → Type 0
    Gives m' r = (r ≡ run_answer_for reals tick code n target index k m) × (m' ≡ run_memory_for reals tick code n target index k m)

    pub refuses : {a : ℕ} → goal_for reals code n target index k m ≡ none a → Gives m (Refused a 0)
    refuses e = (
      ap (ran_answer_for reals tick index m (runs_in reals tick code n m)) (sym e),
      ap (ran_memory_for reals tick index m (runs_in reals tick code n m)) (sym e),
    )

    pub after_run : {m' : List ℕ} {b : Bank} {e : Element} {r : Answer} {x : Ran} → goal_for reals code n target index k m ≡ to b e
        → x ≡ runs_in reals tick code n m → Finishes m (arrival_for reals tick index m b e) x r m' → Gives m' r
    after_run {b = b} {e = e} g f h = (
      h.0 ∙ ap (λ x. finished m (arrival_for reals tick index m b e) x.end x.count) f
          ∙ ap (ran_answer_for reals tick index m (runs_in reals tick code n m)) (sym g),
      h.1 ∙ ap (λ x. memory_after m (arrival_for reals tick index m b e) x.end) f
          ∙ ap (ran_memory_for reals tick index m (runs_in reals tick code n m)) (sym g),
    )
