-- A run's end, its count and where its value goes are read from the listed cells, and the store asks for the memory's size alone.
use Rattle.std.specs.Prelude.{Option, Result, Some, None, ⊤}
use mathlib.Core.Path.{◌≡◌, refl, sym, ap, ◌∙◌}
use mathlib.Core.Bool.{Bool, true, false, cond}
use mathlib.Core.List.{List}
use Prim.Native.Nat.{ℕ, ◌+◌}
use lib.ListN.{length}
use borrow.Author.Tests.{eq-eqb}
use Rattle.values.specs.declared.Value.{Value}
use Rattle.values.specs.declared.Fault.{Fault as FaultName}
use Rattle.values.specs.declared.Fault.TheVariants.{OutOfRange}
use Rattle.values.specs.declared.Outcome.{Outcome}
use Rattle.memory.specs.declared.Bank.{Bank}
use Rattle.memory.specs.Layout.{image_size, packed}
use Rattle.memory.specs.Store.{is_finite, store_answer}
use Rattle.memory.specs.Environment.{Environment, memory_at}
use Rattle.text.specs.Targets.{Target, to_cell, to_indexed, no_target}
use Rattle.code.specs.Instructions.{instructions}
use Rattle.machine.specs.declared.Ended.{Ended}
use Rattle.machine.specs.declared.Ended.TheVariants as Ended
use Rattle.machine.specs.declared.Ran.{Ran}
use Rattle.machine.specs.Machine.{runs_at, end_of}
use Rattle.verifier.specs.Verdicts.{verdict}
use Rattle.read_set.specs.Cells.{code_cells}
use Rattle.read_laws.specs.Formulas.{target_cells}
use Rattle.read_laws.specs.Theorems.{AlikeOn, AgreeOn}
use Rattle.read_laws.proofs.Environments.{first, second}
use Rattle.read_laws.proofs.Laws.{read-theorems}
use Rattle.targets.specs.declared.Element.{Element}
use Rattle.targets.specs.declared.Element.TheVariants.{Is, By}
use Rattle.targets.specs.Found.{found_to_run}
use Rattle.delivery.specs.declared.Answer.{Answer}
use Rattle.delivery.specs.declared.Answer.TheVariants.{Fault}
use Rattle.operations.specs.Operations.{Destination, cell, fault, lost, reached, destination_of, Arrival, arrival, after_store, arrived_answer}
use Rattle.operations.specs.Operations.{follow_answer, finished}
use Rattle.operations.specs.Operations.{Goal, to, none, index_passes, goal_of, goal, ran_answer, run_answer, request}
use Rattle.operations.specs.Operations.{value_answer, evaluate_answer, given_goal_of, given_goal, gave_answer, given_answer}
use Rattle.read_answers.specs.Answers.{element_cells, found_cells, run_cells}
use Rattle.values.specs.declared.Kind.{Kind}

pub element : (E F : Environment) (g : Target) → AlikeOn (target_cells g) E F → destination_of E g ≡ destination_of F g
element E F (to_cell b i) a = refl
element E F (to_indexed b t) a = ap (λ (o : Outcome). reached b (end_of o)) (read-theorems.value E F t a)
element E F no_target a = refl

pub asked : (target text m m' code index : List ℕ) → length m ≡ image_size → length m' ≡ image_size
    → request target text m code index ≡ request target text m' code index
asked target text m m' code index h h' = rw (eq-eqb (length m) image_size h, eq-eqb (length m') image_size h')

module _ (m m' : List ℕ) (h : length m ≡ image_size) (h' : length m' ≡ image_size) where
  -- ---- after a value
  store_same : (b : Bank) (i : ℕ) (v : Value) → store_answer m b i v ≡ store_answer m' b i v
  store_same b i v = rw (eq-eqb (length m) image_size h, eq-eqb (length m') image_size h')

  arrived-same : (v : Value) (n : ℕ) (d : Destination) → arrived_answer m v n d ≡ arrived_answer m' v n d
  arrived-same v n (cell b i) = ap (λ (s : (Result ⊤ FaultName)). after_store v n b i s) (store_same b i v)
  arrived-same v n (fault f) = refl
  arrived-same v n lost = refl

  follow-same : (v : Value) (n : ℕ) (a : Arrival) → follow_answer m v n a ≡ follow_answer m' v n a
  follow-same v n a = ap (λ (x : Answer). cond (is_finite v) x (Fault OutOfRange n)) (arrived-same v (n + a.count) a.destination)

  pub finished-same : (a : Arrival) (e : Ended) (n : ℕ) → finished m a e n ≡ finished m' a e n
  finished-same a (Ended.Done v) n = follow-same v n a
  finished-same a (Ended.Stopped f) n = refl
  finished-same a Ended.Stuck n = refl

  -- ---- run
  module _ (tick : ℕ) (index : List ℕ) where
    pub arrival-same : (b : Bank) (e : Element) → AlikeOn (element_cells index e) (memory_at tick m) (memory_at tick m')
        → arrival tick index m b e ≡ arrival tick index m' b e
    arrival-same b (Is i) a = refl
    arrival-same b (By k) a =
        ap (λ (x : Ran). record { destination = reached b x.end; count = x.count })
        (read-theorems.run (memory_at tick m) (memory_at tick m') (instructions index k) a)

    goal-same : (x : Ran) (v : (Option Kind)) (f : (Option (Bank × Element))) → AlikeOn (found_cells index f) (memory_at tick m) (memory_at tick m')
        → ran_answer tick index m x (goal_of index v f) ≡ ran_answer tick index m' x (goal_of index v f)
    goal-same x (Some j) (Some (b, e)) a = by (index_passes index e)
      where
        by : (t : Bool) → ran_answer tick index m x (cond t (to b e) (none 15)) ≡ ran_answer tick index m' x (cond t (to b e) (none 15))
        by true =
            ap (λ (r : Arrival). finished m r x.end x.count) (arrival-same b e a)
            ∙ finished-same (arrival tick index m' b e) x.end x.count
        by false = refl
    goal-same x None (Some (b, e)) a = refl
    goal-same x (Some j) None a = refl
    goal-same x None None a = refl

    -- ---- store
    gave-same : (v : Value) (f : (Option (Bank × Element))) → AlikeOn (found_cells index f) (memory_at tick m) (memory_at tick m')
        → gave_answer tick v index m (given_goal_of index f) ≡ gave_answer tick v index m' (given_goal_of index f)
    gave-same v (Some (b, e)) a = by (index_passes index e)
      where
        by : (t : Bool) → gave_answer tick v index m (cond t (to b e) (none 15)) ≡ gave_answer tick v index m' (cond t (to b e) (none 15))
        by true = ap (follow_answer m v 0) (arrival-same b e a) ∙ follow-same v 0 (arrival tick index m' b e)
        by false = refl
    gave-same v None a = refl

-- a memory of the right size leaves code and target to be judged
pub goal-is : (code : List ℕ) (n : ℕ) (target index : List ℕ) (k : ℕ) (m : List ℕ) → length m ≡ image_size
    → goal code n target index k m ≡ goal_of index (verdict (instructions code n)) (found_to_run k target)
goal-is code n target index k m h = rw (eq-eqb (length m) image_size h)

pub given-goal-is : (target index : List ℕ) (k : ℕ) (m : List ℕ) → length m ≡ image_size → given_goal target index k m ≡ given_goal_of index (found_to_run k target)
given-goal-is target index k m h = rw (eq-eqb (length m) image_size h)

pub ran : (tick : ℕ) (code : List ℕ) (n : ℕ) (target index : List ℕ) (k : ℕ) (m m' : List ℕ) → AgreeOn packed (run_cells code n target index k) m m'
    → run_answer tick code n target index k m ≡ run_answer tick code n target index k m'
ran tick code n target index k m m' a =
    let both = read-theorems.memories packed tick (run_cells code n target index k) m m' a in
    let mine = first (code_cells (instructions code n)) (found_cells index (found_to_run k target)) both in
    let its = second (code_cells (instructions code n)) (found_cells index (found_to_run k target)) both in
    let x = runs_at tick code n m' in
    ap (λ (r : Ran). ran_answer tick index m r (goal code n target index k m))
    (read-theorems.run (memory_at tick m) (memory_at tick m') (instructions code n) mine)
    ∙ ap (λ (g : Goal). ran_answer tick index m x g) (goal-is code n target index k m a.size)
    ∙ goal-same m m' a.size a.size' tick index x (verdict (instructions code n)) (found_to_run k target) its
    ∙ sym (ap (λ (g : Goal). ran_answer tick index m' x g) (goal-is code n target index k m' a.size'))

pub evaluated : (tick : ℕ) (code : List ℕ) (n : ℕ) (m m' : List ℕ) → AgreeOn packed (code_cells (instructions code n)) m m'
    → evaluate_answer tick code n m ≡ evaluate_answer tick code n m'
evaluated tick code n m m' a =
    let E = memory_at tick m in
    let F = memory_at tick m' in
    let alike = read-theorems.memories packed tick (code_cells (instructions code n)) m m' a in
    rw (eq-eqb (length m) image_size a.size, eq-eqb (length m') image_size a.size')
    (ap (λ (x : Ran). value_answer x (verdict (instructions code n))) (read-theorems.run E F (instructions code n) alike))

pub gave : (tick : ℕ) (v : Value) (target index : List ℕ) (k : ℕ) (m m' : List ℕ) → AgreeOn packed (found_cells index (found_to_run k target)) m m'
    → given_answer tick v target index k m ≡ given_answer tick v target index k m'
gave tick v target index k m m' a =
    ap (gave_answer tick v index m) (given-goal-is target index k m a.size)
    ∙ gave-same m m' a.size a.size' tick index v (found_to_run k target)
    (read-theorems.memories packed tick (found_cells index (found_to_run k target)) m m' a)
    ∙ sym (ap (gave_answer tick v index m') (given-goal-is target index k m' a.size'))
