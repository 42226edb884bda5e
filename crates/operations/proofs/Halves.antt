-- `evaluate_in` and `store_in`: what each refusal and each way answers.
use Rattle.std.specs.Prelude.{Option, Some}
use mathlib.Core.Path.{◌≡◌, refl, sym, ap, ◌∙◌}
use mathlib.Core.Bool.{Bool, true, false, cond}
use mathlib.Core.List.{List}
use Prim.Native.Nat.{ℕ}
use lib.ListN.{length}
use Rattle.values.specs.declared.Kind.{Kind}
use Rattle.values.specs.declared.Value.{Value}
use Rattle.values.specs.declared.Fault.TheVariants.{OutOfRange}
use Rattle.memory.specs.declared.Bank.{Bank}
use Rattle.memory.specs.Layout.{image_size}
use Rattle.memory.specs.Store.{is_finite, with_flag}
use Rattle.code.specs.Instructions.{instructions}
use Rattle.machine.specs.declared.Ended.{Ended}
use Rattle.machine.specs.declared.Ran.{Ran}
use Rattle.machine.specs.Profile.{runs_in}
use Rattle.verifier.specs.Profile.{verdict_in}
use Rattle.targets.specs.declared.Element.{Element}
use Rattle.targets.specs.Found.{run_target_in}
use Rattle.delivery.specs.declared.Answer.{Answer}
use Rattle.delivery.specs.declared.Answer.TheVariants.{Fault, Refused}
use Rattle.operations.specs.Operations.{to, none, follow_answer, follow_memory, value_answer}
use Rattle.operations.specs.Profile.{arrival_for, index_passes_for, evaluate_answer_for, given_goal_of_for, given_goal_for, unstorable, gave_answer_for}
use Rattle.operations.specs.Profile.{gave_memory_for, given_answer_for, given_memory_for}
use Rattle.delivery.proofs.Following.{infinite-answer, infinite-memory}
use Rattle.operations.proofs.Verdicts.{wrong_size, right-size}
use Rattle.operations.proofs.Giving.{wrong-image, right-image}

-- ---- evaluate

module _ (reals : Bool) (tick : ℕ) (code : List ℕ) (n : ℕ) (m : List ℕ) where
  pub no-memory : (length m ≡ image_size → ⊥) → Refused 1 0 ≡ evaluate_answer_for reals tick code n m
  no-memory h = wrong-image m (runs_in reals tick code n m) (verdict_in reals (instructions code n)) h

  pub evaluates : {x : Ran} {v : (Option Kind)} {r : Answer} → length m ≡ image_size → verdict_in reals (instructions code n) ≡ v → x ≡ runs_in reals tick code n m
      → r ≡ value_answer x v → r ≡ evaluate_answer_for reals tick code n m
  evaluates h q f e = right-image m (runs_in reals tick code n m) (verdict_in reals (instructions code n)) h q f e

  -- the end and the count of the run decide
  pub evaluates-to : {x : Ran} {k : Kind} {e : Ended} {r : Answer} → length m ≡ image_size → verdict_in reals (instructions code n) ≡ Some k
      → x ≡ runs_in reals tick code n m → x.end ≡ e → r ≡ value_answer (record { end = e; count = x.count }) (Some k)
      → r ≡ evaluate_answer_for reals tick code n m
  evaluates-to {x} {k} h q f d w = evaluates h q f (w ∙ ap (λ e. value_answer (record { end = e; count = x.count }) (Some k)) (sym d))

-- ---- store

module _ (reals : Bool) (tick : ℕ) (v : Value) (target index : List ℕ) (k : ℕ) (m : List ℕ) where
  pub no-image : (length m ≡ image_size → ⊥) → given_goal_for reals target index k m ≡ none 1
  no-image h = wrong_size m (given_goal_of_for reals index (run_target_in reals k target)) h

  pub found : {x : (Option (Bank × Element))} → length m ≡ image_size → run_target_in reals k target ≡ x → given_goal_for reals target index k m ≡ given_goal_of_for reals index x
  found h e = right-size m (given_goal_of_for reals index (run_target_in reals k target)) h ∙ ap (given_goal_of_for reals index) e

  pub aims : {b : Bank} {e : Element} {p : Bool} → length m ≡ image_size → run_target_in reals k target ≡ Some (b, e) → index_passes_for reals index e ≡ p
      → given_goal_for reals target index k m ≡ cond p (to b e) (none 15)
  aims {b} {e} h f q = found h f ∙ ap (λ p. cond p (to b e) (none 15)) q

  -- r and m' are what store gives
  abbrev Stores : Answer → List ℕ → Type 0
  Stores r m' = (r ≡ given_answer_for reals tick v target index k m) × (m' ≡ given_memory_for reals tick v target index k m)

  pub refuses : {a : ℕ} → given_goal_for reals target index k m ≡ none a → Stores (Refused a 0) m
  refuses e = (ap (gave_answer_for reals tick v index m) (sym e), ap (gave_memory_for reals tick v index m) (sym e))

  module _ {b : Bank} {e : Element} (g : given_goal_for reals target index k m ≡ to b e) where
    pub no-real : unstorable reals v ≡ true → Stores (Refused 19 0) m
    no-real h = rw (g, h) (refl, refl)

    module _ (u : unstorable reals v ≡ false) where
      pub infinite : {r : Answer} {m' : List ℕ} → is_finite v ≡ false → (r ≡ Fault OutOfRange 0) × (m' ≡ with_flag m OutOfRange) → Stores r m'
      infinite h w =
          let a = arrival_for reals tick index m b e in
          rw (g, u) (w.0 ∙ sym (infinite-answer m v h 0 a), w.1 ∙ sym (infinite-memory m v h a))

      pub follows : {w : Value} {r : Answer} {m' : List ℕ} → w ≡ v
          → (r ≡ follow_answer m w 0 (arrival_for reals tick index m b e)) × (m' ≡ follow_memory m w (arrival_for reals tick index m b e)) → Stores r m'
      follows q w = rw (g, u, ← q) w
