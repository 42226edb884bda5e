-- The check and the run of the full box: accepted code, and where its value goes.
use Rattle.std.specs.Prelude.{Option, Some, None}
use mathlib.Core.Path.{◌≡◌, refl, ap, ◌∙◌}
use mathlib.Core.Bool.{Bool, cond}
use mathlib.Core.List.{List}
use Prim.Native.Nat.{ℕ}
use native.Mathlib.Omega.{arith}
use lib.Dec.{eqb}
use lib.ListN.{length}
use borrow.Author.Tests.{eq-eqb, ne_eqb}
use Rattle.values.specs.declared.Kind.{Kind}
use Rattle.memory.specs.declared.Bank.{Bank}
use Rattle.memory.specs.Layout.{image_size}
use Rattle.code.specs.Instructions.{instructions}
use Rattle.machine.specs.declared.Ran.{Ran}
use Rattle.verifier.specs.Accepts.{Accepts}
use Rattle.verifier.specs.Verdicts.{verdict}
use Rattle.verifier.proofs.Verdicts.{verdict-laws}
use Rattle.targets.specs.declared.Element.{Element}
use Rattle.targets.specs.Found.{found_to_run}
use Rattle.delivery.specs.declared.Answer.{Answer}
use Rattle.operations.specs.Operations.{done_with, verdict_answer, check_answer, Goal, to, none, index_passes, goal_of, goal, Arrival, finished, memory_after}

-- accepted is what the check answers with 0
module _ (code : List ℕ) (n : ℕ) where
  pub accepted-by : check_answer code n ≡ done_with 0 → (k : Kind) × Accepts (instructions code n) k
  accepted-by = by (verdict (instructions code n)) refl
    where
      by : (v : Option Kind) → verdict (instructions code n) ≡ v → verdict_answer v ≡ done_with 0 → (k : Kind) × Accepts (instructions code n) k
      by (Some k) q e = (k, (verdict-laws.exact (instructions code n) k).0 q)
      by None q e = let z : ◌≡◌ {A = ℕ} 0 1 = cc in absurd (omega arith)

  pub passes : {k : Kind} → Accepts (instructions code n) k → check_answer code n ≡ done_with 0
  passes {k} a = ap verdict_answer ((verdict-laws.exact (instructions code n) k).1 a)

-- ---- where the value goes

-- the memory's size is looked at before the goal g
module _ (m : List ℕ) (g : Goal) where
  pub wrong_size : (length m ≡ image_size → ⊥) → cond (eqb (length m) image_size) g (none 1) ≡ none 1
  wrong_size h = rw (ne_eqb (length m) image_size h)

  pub right-size : length m ≡ image_size → cond (eqb (length m) image_size) g (none 1) ≡ g
  right-size h = rw (eq-eqb (length m) image_size h)

module _ (code : List ℕ) (n : ℕ) (target index : List ℕ) (k : ℕ) (m : List ℕ) where
  pub no-memory : (length m ≡ image_size → ⊥) → goal code n target index k m ≡ none 1
  no-memory h = wrong_size m (goal_of index (verdict (instructions code n)) (found_to_run k target)) h

  pub named : {x : (Option (Bank × Element))} {v : (Option Kind)} → length m ≡ image_size → found_to_run k target ≡ x → verdict (instructions code n) ≡ v
      → goal code n target index k m ≡ goal_of index v x
  named {x} h e q =
      right-size m (goal_of index (verdict (instructions code n)) (found_to_run k target)) h ∙ ap (goal_of index (verdict (instructions code n))) e
      ∙ ap (λ v. goal_of index v x) q

  pub aimed : {b : Bank} {e : Element} {v : (Option Kind)} {j : Kind} {p : Bool} → length m ≡ image_size → found_to_run k target ≡ Some (b, e)
      → verdict (instructions code n) ≡ v → v ≡ Some j → index_passes index e ≡ p → goal code n target index k m ≡ cond p (to b e) (none 15)
  aimed {b} {e} h f q a r = named h f (q ∙ a) ∙ ap (λ p. cond p (to b e) (none 15)) r

-- ---- the run

-- r and m' are what comes of the run x
abbrev pub Finishes : List ℕ → Arrival → Ran → Answer → List ℕ → Type 0
Finishes m a x r m' = (r ≡ finished m a x.end x.count) × (m' ≡ memory_after m a x.end)
