-- What run, store and compile-and-run make of two memories that agree is one effect.
use Rattle.std.specs.Prelude.{Option, Result, Some, None, Ok, Err}
use mathlib.Core.Path.{◌≡◌, refl, sym, ap, ◌∙◌, subst}
use mathlib.Core.Bool.{Bool, true, false, cond}
use mathlib.Core.List.{List}
use Prim.Native.Nat.{ℕ, ◌+◌}
use native.Mathlib.Omega.{arith}
use lib.Dec.{ltb}
use lib.ListN.{length, set}
use borrow.Author.Tests.{eq-eqb, ltb-true}
use Rattle.values.specs.declared.Value.{Value}
use Rattle.values.specs.declared.Fault.{Fault as FaultName}
use Rattle.values.specs.declared.Fault.TheVariants.{OutOfRange, IndexError}
use Rattle.memory.specs.declared.Bank.{Bank}
use Rattle.memory.specs.Layout.{image_size, layout_of, packed}
use Rattle.memory.specs.Store.{encode_cell, is_finite, with_flag, store_image}
use Rattle.memory.specs.Environment.{memory_at}
use Rattle.memory.proofs.Laws.{memory-laws, packed-laws}
use Rattle.grammar.specs.Eval.{eval}
use Rattle.code.specs.Instructions.{instructions}
use Rattle.machine.specs.declared.Ended.{Ended}
use Rattle.machine.specs.declared.Ended.TheVariants as Ended
use Rattle.machine.specs.declared.Ran.{Ran}
use Rattle.machine.specs.Machine.{runs_at, end_of}
use Rattle.verifier.specs.Verdicts.{verdict}
use Rattle.tree_code.specs.Code.{code_of}
use Rattle.read_set.specs.Cells.{code_cells}
use Rattle.read_laws.specs.Formulas.{tree_cells, target_cells}
use Rattle.read_laws.specs.Theorems.{AlikeOn, AgreeOn}
use Rattle.read_laws.proofs.Environments.{first, second}
use Rattle.read_laws.proofs.Laws.{read-theorems}
use Rattle.targets.specs.declared.Element.{Element}
use Rattle.targets.specs.Found.{found_to_run}
use Rattle.delivery.specs.declared.Answer.{Answer}
use Rattle.delivery.specs.declared.Answer.TheVariants.{Done, Fault, Refused}
use Rattle.operations.specs.Operations.{Destination, cell, fault, lost, Arrival, arrival, arrival_of, stored_answer, arrived_answer, arrived_memory}
use Rattle.operations.specs.Operations.{follow_answer, follow_memory, finished, memory_after, to, none, index_passes, goal_of, goal, ran_answer, ran_memory}
use Rattle.operations.specs.Operations.{run_answer, run_memory, given_goal_of, gave_answer, gave_memory, given_answer, given_memory}
use Rattle.operations.specs.Operations.{Request, stores, stops, request_answer, request_memory}
use Rattle.read_answers.specs.Answers.{found_cells, run_cells, request_cells}
use Rattle.read_answers.specs.After.{Leaves, StoredTheorems}
use Rattle.read_answers.proofs.Effects.{NoCell, Does, nothing, flag, put, leaves}
use Rattle.read_answers.proofs.Runs.{element, arrival-same, goal-is, given-goal-is}
use Rattle.values.specs.declared.Kind.{Kind}

no-fault : {f : FaultName} {k : ℕ} → NoCell (Fault f k)
no-fault v n b i e = let z : ◌≡◌ {A = ℕ} 0 1 = cc in omega arith

no-refusal : {a p : ℕ} → NoCell (Refused a p)
no-refusal v n b i e = let z : ◌≡◌ {A = ℕ} 0 1 = cc in omega arith

module _ (m m' : List ℕ) (h : length m ≡ image_size) (h' : length m' ≡ image_size) where
  abbrev Both : Answer → List ℕ → List ℕ → Type 0
  Both a s s' = Does packed m m' a s s'

  -- ---- after a value
  flagged : (s : List ℕ) → length s ≡ image_size → (f : FaultName) → with_flag s f ≡ set s (packed.flag f) 1
  flagged s z f = rw (eq-eqb (length s) image_size z)

  faulted : {a : Answer} {s s' : List ℕ} (f : FaultName) (n : ℕ) → a ≡ Fault f n → s ≡ with_flag m f → s' ≡ with_flag m' f → Both a s s'
  faulted f n e p q = flag (λ v k b i d. no-fault v k b i (sym e ∙ d)) f (p ∙ flagged m h f) (q ∙ flagged m' h' f)

  refused : (a p : ℕ) → Both (Refused a p) m m'
  refused a p = nothing no-refusal refl refl

  store_both : (b : Bank) (i : ℕ) (v : Value) (n : ℕ) → Both (stored_answer m b i v n) (store_image m b i v) (store_image m' b i v)
  store_both b i v n = by (ltb i (layout_of b).elements) refl (encode_cell b v) refl
    where
      by : (t : Bool) → ltb i (layout_of b).elements ≡ t → (x : (Result ℕ FaultName)) → encode_cell b v ≡ x
          → Both (stored_answer m b i v n) (store_image m b i v) (store_image m' b i v)
      by true e (Ok p) q =
          put {v = v} {n = n} b i p (ltb-true i (layout_of b).elements e) (memory-laws.holdable b v p q) (rw (eq-eqb (length m) image_size h, e, q))
          (rw (eq-eqb (length m) image_size h, e, q)) (rw (eq-eqb (length m') image_size h', e, q))
      by true e (Err f) q =
          faulted f n (rw (eq-eqb (length m) image_size h, e, q)) (rw (eq-eqb (length m) image_size h, e, q) (flagged m h f))
          (rw (eq-eqb (length m') image_size h', e, q) (flagged m' h' f))
      by false e x q =
          faulted IndexError n (rw (eq-eqb (length m) image_size h, e)) (rw (eq-eqb (length m) image_size h, e)) (rw (eq-eqb (length m') image_size h', e))

  arrived-both : (v : Value) (n : ℕ) (d : Destination) → Both (arrived_answer m v n d) (arrived_memory m v d) (arrived_memory m' v d)
  arrived-both v n (cell b i) = store_both b i v n
  arrived-both v n (fault f) = faulted f n refl refl refl
  arrived-both v n lost = refused 15 0

  module _ (a a' : Arrival) (same : a.destination ≡ a'.destination) where
    follow-both : (v : Value) (n : ℕ) → Both (follow_answer m v n a) (follow_memory m v a) (follow_memory m' v a')
    follow-both v n =
        by (is_finite v)
        (subst (λ (d : Destination). Both (arrived_answer m v (n + a.count) a.destination) (arrived_memory m v a.destination) (arrived_memory m' v d)) same
        (arrived-both v (n + a.count) a.destination))
      where
        by : (t : Bool) → Both (arrived_answer m v (n + a.count) a.destination) (arrived_memory m v a.destination) (arrived_memory m' v a'.destination)
            → Both (cond t (arrived_answer m v (n + a.count) a.destination) (Fault OutOfRange n))
            (cond t (arrived_memory m v a.destination) (with_flag m OutOfRange)) (cond t (arrived_memory m' v a'.destination) (with_flag m' OutOfRange))
        by true x = x
        by false x = faulted OutOfRange n refl refl refl

    finished-both : (e : Ended) (n : ℕ) → Both (finished m a e n) (memory_after m a e) (memory_after m' a' e)
    finished-both (Ended.Done v) n = follow-both v n
    finished-both (Ended.Stopped f) n = faulted f n refl refl refl
    finished-both Ended.Stuck n = refused 15 0

  -- ---- run and store
  module _ (tick : ℕ) (index : List ℕ) where
    arrives : (b : Bank) (e : Element) → arrival tick index m b e ≡ arrival tick index m' b e
        → (arrival tick index m b e).destination ≡ (arrival tick index m' b e).destination
    arrives b e q = ap (λ (a : Arrival). a.destination) q

    goal-both : (x : Ran) (v : (Option Kind)) (f : (Option (Bank × Element))) → AlikeOn (found_cells index f) (memory_at tick m) (memory_at tick m')
        → Both (ran_answer tick index m x (goal_of index v f)) (ran_memory tick index m x (goal_of index v f)) (ran_memory tick index m' x (goal_of index v f))
    goal-both x (Some j) (Some (b, e)) a = by (index_passes index e)
      where
        by : (t : Bool) → Both (ran_answer tick index m x (cond t (to b e) (none 15))) (ran_memory tick index m x (cond t (to b e) (none 15)))
            (ran_memory tick index m' x (cond t (to b e) (none 15)))
        by true =
            finished-both (arrival tick index m b e) (arrival tick index m' b e) (arrives b e (arrival-same m m' h h' tick index b e a)) x.end x.count
        by false = refused 15 0
    goal-both x None (Some (b, e)) a = refused 15 0
    goal-both x (Some j) None a = refused 2 0
    goal-both x None None a = refused 2 0

    gave-both : (v : Value) (f : (Option (Bank × Element))) → AlikeOn (found_cells index f) (memory_at tick m) (memory_at tick m')
        → Both (gave_answer tick v index m (given_goal_of index f)) (gave_memory tick v index m (given_goal_of index f))
        (gave_memory tick v index m' (given_goal_of index f))
    gave-both v (Some (b, e)) a = by (index_passes index e)
      where
        by : (t : Bool) → Both (gave_answer tick v index m (cond t (to b e) (none 15))) (gave_memory tick v index m (cond t (to b e) (none 15)))
            (gave_memory tick v index m' (cond t (to b e) (none 15)))
        by true = follow-both (arrival tick index m b e) (arrival tick index m' b e) (arrives b e (arrival-same m m' h h' tick index b e a)) v 0
        by false = refused 15 0
    gave-both v None a = refused 2 0

-- the same of what the definitions come to
module _ {m m' : List ℕ} {a b : Answer} {s s' t t' : List ℕ} where
  restated : a ≡ b → s ≡ t → s' ≡ t' → Does packed m m' b t t' → Does packed m m' a s s'
  restated e p q (nothing n u w) = nothing (λ v o c i d. n v o c i (sym e ∙ d)) (p ∙ u) (q ∙ w)
  restated e p q (flag n f u w) = flag (λ v o c i d. n v o c i (sym e ∙ d)) f (p ∙ u) (q ∙ w)
  restated e p q (put c i o l k r u w) = put c i o l k (e ∙ r) (p ∙ u) (q ∙ w)

ran : (tick : ℕ) (code : List ℕ) (n : ℕ) (target index : List ℕ) (k : ℕ) (m m' : List ℕ) → AgreeOn packed (run_cells code n target index k) m m'
    → Leaves packed (run_answer tick code n target index k m) m m' (run_memory tick code n target index k m) (run_memory tick code n target index k m')
ran tick code n target index k m m' a =
    let both = read-theorems.memories packed tick (run_cells code n target index k) m m' a in
    let mine = first (code_cells (instructions code n)) (found_cells index (found_to_run k target)) both in
    let its = second (code_cells (instructions code n)) (found_cells index (found_to_run k target)) both in
    let x = runs_at tick code n m in
    let g = goal-is code n target index k m a.size in
    let g' = goal-is code n target index k m' a.size' in
    let one = read-theorems.run (memory_at tick m) (memory_at tick m') (instructions code n) mine in
    leaves packed packed-laws m m' a.size a.size'
    (restated (ap (ran_answer tick index m x) g) (ap (ran_memory tick index m x) g)
    (ap (λ (r : Ran). ran_memory tick index m' r (goal code n target index k m')) (sym one) ∙ ap (ran_memory tick index m' x) g')
    (goal-both m m' a.size a.size' tick index x (verdict (instructions code n)) (found_to_run k target) its))

gave : (tick : ℕ) (v : Value) (target index : List ℕ) (k : ℕ) (m m' : List ℕ) → AgreeOn packed (found_cells index (found_to_run k target)) m m'
    → Leaves packed (given_answer tick v target index k m) m m' (given_memory tick v target index k m) (given_memory tick v target index k m')
gave tick v target index k m m' a =
    let its = read-theorems.memories packed tick (found_cells index (found_to_run k target)) m m' a in
    let g = given-goal-is target index k m a.size in
    let g' = given-goal-is target index k m' a.size' in
    leaves packed packed-laws m m' a.size a.size'
    (restated (ap (gave_answer tick v index m) g) (ap (gave_memory tick v index m) g) (ap (gave_memory tick v index m') g')
    (gave-both m m' a.size a.size' tick index v (found_to_run k target) its))

-- ---- compile and run
stored : (tick : ℕ) (q : Request) (m m' : List ℕ) → AgreeOn packed (request_cells q) m m'
    → Leaves packed (request_answer tick m q) m m' (request_memory tick m q) (request_memory tick m' q)
stored tick (stores g t code index) m m' a =
    let E = memory_at tick m in
    let F = memory_at tick m' in
    let both = read-theorems.memories packed tick (request_cells (stores g t code index)) m m' a in
    let its = first (tree_cells t) (target_cells g) both in
    let goes = second (tree_cells t) (target_cells g) both in
    let n = (runs_at tick code (length (code_of t)) m).count in
    leaves packed packed-laws m m' a.size a.size'
    (restated refl refl (ap (λ (o : Ended). memory_after m' (arrival_of tick index m' g) o) (ap end_of (sym (read-theorems.value E F t its))))
    (finished-both m m' a.size a.size' (arrival_of tick index m g) (arrival_of tick index m' g) (element E F g goes) (end_of (eval E t)) n))
stored tick (stops x p) m m' a = leaves packed packed-laws m m' a.size a.size' (refused m m' a.size a.size' x p)

pub stored-theorems : StoredTheorems
stored-theorems = record { ran = ran; given = gave; stored = stored }
