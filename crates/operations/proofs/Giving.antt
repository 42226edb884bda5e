-- Evaluate and store of the full box: the value worked out, and where a given one goes.
use Rattle.std.specs.Prelude.{Option, Some}
use mathlib.Core.Path.{◌≡◌, sym, ap, ◌∙◌}
use mathlib.Core.Bool.{Bool, cond}
use mathlib.Core.List.{List}
use Prim.Native.Nat.{ℕ}
use lib.Dec.{eqb}
use lib.ListN.{length}
use borrow.Author.Tests.{eq-eqb, ne_eqb}
use Rattle.values.specs.declared.Value.{Value}
use Rattle.memory.specs.declared.Bank.{Bank}
use Rattle.memory.specs.Layout.{image_size}
use Rattle.code.specs.Instructions.{instructions}
use Rattle.machine.specs.declared.Ran.{Ran}
use Rattle.machine.specs.Machine.{runs_at}
use Rattle.verifier.specs.Verdicts.{verdict}
use Rattle.targets.specs.declared.Element.{Element}
use Rattle.targets.specs.Found.{found_to_run}
use Rattle.delivery.specs.declared.Answer.{Answer}
use Rattle.delivery.specs.declared.Answer.TheVariants.{Refused}
use Rattle.operations.specs.Operations.{to, none, index_passes, value_answer, evaluate_answer, given_goal_of, given_goal}
use Rattle.operations.proofs.Verdicts.{wrong_size, right-size}
use Rattle.values.specs.declared.Kind.{Kind}

-- ---- evaluate

-- the memory's size is looked at before the verdict v; the run would be x
module _ (m : List ℕ) (x : Ran) (v : (Option Kind)) where
  pub wrong-image : (length m ≡ image_size → ⊥) → Refused 1 0 ≡ cond (eqb (length m) image_size) (value_answer x v) (Refused 1 0)
  wrong-image h = rw (ne_eqb (length m) image_size h)

  pub right-image : {y : Ran} {w : (Option Kind)} {r : Answer} → length m ≡ image_size → v ≡ w → y ≡ x → r ≡ value_answer y w
      → r ≡ cond (eqb (length m) image_size) (value_answer x v) (Refused 1 0)
  right-image {y} {w} h q f e = e ∙ ap (λ y. value_answer y w) f ∙ ap (value_answer x) (sym q) ∙ sym (rw (eq-eqb (length m) image_size h))

module _ (tick : ℕ) (code : List ℕ) (n : ℕ) (m : List ℕ) where
  pub no-memory : (length m ≡ image_size → ⊥) → Refused 1 0 ≡ evaluate_answer tick code n m
  no-memory h = wrong-image m (runs_at tick code n m) (verdict (instructions code n)) h

  pub evaluates : {x : Ran} {v : (Option Kind)} {r : Answer} → length m ≡ image_size → verdict (instructions code n) ≡ v → x ≡ runs_at tick code n m
      → r ≡ value_answer x v
      → r ≡ evaluate_answer tick code n m
  evaluates h q f e = right-image m (runs_at tick code n m) (verdict (instructions code n)) h q f e

-- ---- store

module _ (tick : ℕ) (v : Value) (target index : List ℕ) (k : ℕ) (m : List ℕ) where
  pub no-image : (length m ≡ image_size → ⊥) → given_goal target index k m ≡ none 1
  no-image h = wrong_size m (given_goal_of index (found_to_run k target)) h

  pub found : {x : (Option (Bank × Element))} → length m ≡ image_size → found_to_run k target ≡ x → given_goal target index k m ≡ given_goal_of index x
  found h e = right-size m (given_goal_of index (found_to_run k target)) h ∙ ap (given_goal_of index) e

  pub aims : {b : Bank} {e : Element} {p : Bool} → length m ≡ image_size → found_to_run k target ≡ Some (b, e) → index_passes index e ≡ p
      → given_goal target index k m ≡ cond p (to b e) (none 15)
  aims {b} {e} h f q = found h f ∙ ap (λ p. cond p (to b e) (none 15)) q
