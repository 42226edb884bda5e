-- With reals each operation is the full box's.
use Rattle.std.specs.Prelude.{Option, Some, None}
use mathlib.Core.Path.{◌≡◌, refl, ap, subst, ◌∙◌}
use mathlib.Core.Bool.{Bool, true, cond}
use mathlib.Core.List.{List, []}
use Prim.Native.Nat.{ℕ}
use lib.Dec.{eqb}
use lib.ListN.{length}
use Rattle.values.specs.declared.Value.{Value}
use Rattle.memory.specs.declared.Bank.{Bank}
use Rattle.memory.specs.Layout.{image_size}
use Rattle.memory.specs.Environment.{memory_at}
use Rattle.text.specs.Judge.{judge}
use Rattle.text.specs.Targets.{Target, to_cell, to_indexed, no_target, target_of}
use Rattle.profile_text.specs.Judge.{judge_in}
use Rattle.profile_text.proofs.Theorems.{profile-texts}
use Rattle.code.specs.Instructions.{instructions}
use Rattle.machine.specs.declared.Ran.{Ran}
use Rattle.machine.specs.Machine.{runs_at}
use Rattle.machine.specs.Profile.{runs_in}
use Rattle.verifier.specs.Profile.{verdict_in}
use Rattle.machine.proofs.Profile.{profile-runs}
use Rattle.verifier.proofs.Profile.{profile-verdicts}
use Rattle.compiler.specs.Compile.{in_room, compiling, compiling_in}
use Rattle.targets.specs.declared.Element.{Element}
use Rattle.targets.specs.declared.Element.TheVariants.{Is, By}
use Rattle.targets.specs.Found.{found_to_run}
use Rattle.delivery.specs.declared.Answer.{Answer}
use Rattle.delivery.specs.declared.Answer.TheVariants.{Refused}
use Rattle.operations.specs.Operations.{verdict_answer, check_answer, reached, Arrival, arrival, Goal, to, none, is_accepted, index_passes, given_goal_of}
use Rattle.operations.specs.Operations.{goal_of, goal, given_goal, finished, memory_after, follow_answer, follow_memory, ran_answer, ran_memory, run_answer}
use Rattle.operations.specs.Operations.{run_memory, value_answer, evaluate_answer, gave_answer, gave_memory, given_answer, given_memory, of_text}
use Rattle.operations.specs.Operations.{of_target, request}
use Rattle.operations.specs.Profile.{check_answer_for, arrival_for, index_passes_for, given_goal_of_for, goal_of_for, goal_for, given_goal_for, ran_answer_for}
use Rattle.operations.specs.Profile.{ran_memory_for, run_answer_for, run_memory_for, evaluate_answer_for, gave_answer_for, gave_memory_for, given_answer_for}
use Rattle.operations.specs.Profile.{given_memory_for, of_target_for, request_for}
use Rattle.operations.proofs.Requests.{sized, Performs}
use Rattle.values.specs.declared.Kind.{Kind}

-- ---- texts and targets

pub full-judge : (s : List ℕ) → judge_in true 0 s ≡ judge s
full-judge s = profile-texts.full 0 s

pub full-compiling : (room : ℕ) (s : List ℕ) → compiling_in true 0 room s ≡ compiling room s
full-compiling room s = ap (in_room room) (full-judge s)

module _ (text code index : List ℕ) where
  -- with one judgement there is one request
  pub same-judged : (reals : Bool) → judge_in reals 0 text ≡ judge text → (g : Target) → of_target_for reals text code index g ≡ of_target text code index g
  same-judged reals e (to_cell b i) = ap (of_text code index (to_cell b i)) e
  same-judged reals e (to_indexed b t) = ap (of_text code index (to_indexed b t)) e
  same-judged reals e no_target = refl

  pub full-request : (target m : List ℕ) → request_for true target text m code index ≡ request target text m code index
  full-request target m = ap (sized m code index) (same-judged true (full-judge text) (target_of target))

  -- what was done for the one was done for the other
  pub performs-full : (tick : ℕ) (target m : List ℕ) {r : Answer} {m' code' index' : List ℕ}
      → Performs tick (request_for true target text m code index) m code index r m' code' index'
      → Performs tick (request target text m code index) m code index r m' code' index'
  performs-full tick target m {r} {m'} {code'} {index'} w = subst (λ q. Performs tick q m code index r m' code' index') (full-request target m) w

-- ---- checks and runs

pub full_runs : (tick : ℕ) (code : List ℕ) (n : ℕ) (m : List ℕ) → runs_in true tick code n m ≡ runs_at tick code n m
full_runs tick code n m = profile-runs.full (memory_at tick m) (instructions code n) 0 []

pub full-check : (code : List ℕ) (n : ℕ) → check_answer_for true code n ≡ check_answer code n
full-check code n = ap verdict_answer (profile-verdicts.full_verdict (instructions code n))

pub full_evaluate : (tick : ℕ) (code : List ℕ) (n : ℕ) (m : List ℕ) → evaluate_answer_for true tick code n m ≡ evaluate_answer tick code n m
full_evaluate tick code n m =
    ap (λ (x : Ran). cond (eqb (length m) image_size) (value_answer x (verdict_in true (instructions code n))) (Refused 1 0)) (full_runs tick code n m)
    ∙ ap (λ (v : (Option Kind)). cond (eqb (length m) image_size) (value_answer (runs_at tick code n m) v) (Refused 1 0))
    (profile-verdicts.full_verdict (instructions code n))

pub evaluates-full : (tick : ℕ) (code : List ℕ) (n : ℕ) (m : List ℕ) {r : Answer} → r ≡ evaluate_answer_for true tick code n m
    → r ≡ evaluate_answer tick code n m
evaluates-full tick code n m e = e ∙ full_evaluate tick code n m

-- ---- where a value arrives

-- where the runs of the index code are the same
pub arrival-same : (reals : Bool) (tick : ℕ) (index m : List ℕ) (b : Bank) (e : Element)
    → ((k : ℕ) → e ≡ By k → runs_in reals tick index k m ≡ runs_at tick index k m) → arrival_for reals tick index m b e ≡ arrival tick index m b e
arrival-same reals tick index m b (Is i) h = refl
arrival-same reals tick index m b (By k) h = ap (λ (x : Ran). record { destination = reached b x.end; count = x.count }) (h k refl)

full-passes : (index : List ℕ) (e : Element) → index_passes_for true index e ≡ index_passes index e
full-passes index (Is i) = refl
full-passes index (By k) = ap is_accepted (profile-verdicts.full_verdict (instructions index k))

full-given : (index : List ℕ) (f : (Option (Bank × Element))) → given_goal_of_for true index f ≡ given_goal_of index f
full-given index (Some (b, e)) = ap (λ (x : Bool). cond x (to b e) (none 15)) (full-passes index e)
full-given index None = refl

full-goal-of : (index : List ℕ) (v : (Option Kind)) (f : (Option (Bank × Element))) → goal_of_for true index v f ≡ goal_of index v f
full-goal-of index v (Some (b, e)) = ap (λ (g : Goal). cond (is_accepted v) g (none 15)) (full-given index (Some (b, e)))
full-goal-of index v None = refl

full-goal : (code target index m : List ℕ) (n k : ℕ) → goal_for true code n target index k m ≡ goal code n target index k m
full-goal code target index m n k =
    ap (λ (g : Goal). cond (eqb (length m) image_size) g (none 1))
    (full-goal-of index (verdict_in true (instructions code n)) (found_to_run k target)
    ∙ ap (λ (v : (Option Kind)). goal_of index v (found_to_run k target)) (profile-verdicts.full_verdict (instructions code n)))

full-given-goal : (target index m : List ℕ) (k : ℕ) → given_goal_for true target index k m ≡ given_goal target index k m
full-given-goal target index m k = ap (λ (g : Goal). cond (eqb (length m) image_size) g (none 1)) (full-given index (found_to_run k target))

-- ---- run and store

module _ (tick : ℕ) (index m : List ℕ) where
  full-arrival : (b : Bank) (e : Element) → arrival_for true tick index m b e ≡ arrival tick index m b e
  full-arrival b e = arrival-same true tick index m b e (λ k i. full_runs tick index k m)

  full-ran : (x : Ran) (g : Goal) → ran_answer_for true tick index m x g ≡ ran_answer tick index m x g
  full-ran x (to b e) = ap (λ (a : Arrival). finished m a x.end x.count) (full-arrival b e)
  full-ran x (none a) = refl

  full-ran-memory : (x : Ran) (g : Goal) → ran_memory_for true tick index m x g ≡ ran_memory tick index m x g
  full-ran-memory x (to b e) = ap (λ (a : Arrival). memory_after m a x.end) (full-arrival b e)
  full-ran-memory x (none a) = refl

  full-gave : (v : Value) (g : Goal) → gave_answer_for true tick v index m g ≡ gave_answer tick v index m g
  full-gave v (to b e) = ap (follow_answer m v 0) (full-arrival b e)
  full-gave v (none a) = refl

  full-gave-memory : (v : Value) (g : Goal) → gave_memory_for true tick v index m g ≡ gave_memory tick v index m g
  full-gave-memory v (to b e) = ap (follow_memory m v) (full-arrival b e)
  full-gave-memory v (none a) = refl

module _ (tick : ℕ) (target index m : List ℕ) (k : ℕ) where
  pub full-run : (code : List ℕ) (n : ℕ) → run_answer_for true tick code n target index k m ≡ run_answer tick code n target index k m
  full-run code n =
      full-ran tick index m (runs_in true tick code n m) (goal_for true code n target index k m)
      ∙ ap (λ (x : Ran). ran_answer tick index m x (goal_for true code n target index k m)) (full_runs tick code n m)
      ∙ ap (ran_answer tick index m (runs_at tick code n m)) (full-goal code target index m n k)

  pub full-run-memory : (code : List ℕ) (n : ℕ) → run_memory_for true tick code n target index k m ≡ run_memory tick code n target index k m
  full-run-memory code n =
      full-ran-memory tick index m (runs_in true tick code n m) (goal_for true code n target index k m)
      ∙ ap (λ (x : Ran). ran_memory tick index m x (goal_for true code n target index k m)) (full_runs tick code n m)
      ∙ ap (ran_memory tick index m (runs_at tick code n m)) (full-goal code target index m n k)

  pub runs-full : (code : List ℕ) (n : ℕ) {r : Answer} {m' : List ℕ}
      → (r ≡ run_answer_for true tick code n target index k m) × (m' ≡ run_memory_for true tick code n target index k m)
      → (r ≡ run_answer tick code n target index k m) × (m' ≡ run_memory tick code n target index k m)
  runs-full code n w = (w.0 ∙ full-run code n, w.1 ∙ full-run-memory code n)

  pub full-store : (v : Value) → given_answer_for true tick v target index k m ≡ given_answer tick v target index k m
  full-store v = full-gave tick index m v (given_goal_for true target index k m) ∙ ap (gave_answer tick v index m) (full-given-goal target index m k)

  pub full-store-memory : (v : Value) → given_memory_for true tick v target index k m ≡ given_memory tick v target index k m
  full-store-memory v =
      full-gave-memory tick index m v (given_goal_for true target index k m) ∙ ap (gave_memory tick v index m) (full-given-goal target index m k)

  pub stores-full : (v : Value) {r : Answer} {m' : List ℕ}
      → (r ≡ given_answer_for true tick v target index k m) × (m' ≡ given_memory_for true tick v target index k m)
      → (r ≡ given_answer tick v target index k m) × (m' ≡ given_memory tick v target index k m)
  stores-full v w = (w.0 ∙ full-store v, w.1 ∙ full-store-memory v)
