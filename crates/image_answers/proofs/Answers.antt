-- Corresponding images are one environment, so a value, its index and the counts are the same; what is stored or flagged leaves them corresponding.
-- Assumes nothing.
use mathlib.Core.Path.{◌≡◌, refl, ap, subst}
use mathlib.Core.Bool.{Bool, true, false, cond}
use mathlib.Core.List.{List, []}
use Prim.Native.Nat.{ℕ, ◌+◌}
use lib.ListN.{length}
use borrow.Author.Tests.{eq-eqb}
use Rattle.values.specs.declared.Value.{Value}
use Rattle.values.specs.declared.Fault.TheVariants.{OutOfRange}
use Rattle.memory.specs.declared.Bank.{Bank}
use Rattle.memory.specs.Layout.{image_size, packed}
use Rattle.memory.specs.Store.{is_finite, with_flag_in}
use Rattle.memory.specs.Environment.{Environment, memory_in}
use Rattle.images.specs.Bytewise.{old_size, bytewise}
use Rattle.images.specs.Conversions.{Corresponds}
use Rattle.images.proofs.Theorems.{image-theorems}
use Rattle.grammar.specs.Tree.{Tree}
use Rattle.grammar.specs.Eval.{eval}
use Rattle.text.specs.Targets.{Target, to_cell, to_indexed, no_target}
use Rattle.code.specs.Instructions.{instructions}
use Rattle.machine.specs.declared.Ended.{Ended}
use Rattle.machine.specs.declared.Ended.TheVariants as Ended
use Rattle.machine.specs.declared.Ran.{Ran}
use Rattle.machine.specs.Machine.{exec, end_of}
use Rattle.verifier.specs.Verdicts.{verdict}
use Rattle.tree_code.specs.Code.{code_of}
use Rattle.targets.specs.declared.Element.{Element}
use Rattle.targets.specs.declared.Element.TheVariants.{Is, By}
use Rattle.delivery.specs.declared.Answer.{Answer}
use Rattle.delivery.specs.declared.Answer.TheVariants.{Fault}
use Rattle.operations.specs.Operations.{Destination, cell, fault, lost, Arrival, reached, destination_of, after_store, Goal, to, none, value_answer}
use Rattle.operations.specs.Operations.{Request, stores, stops}
use Rattle.operations.specs.Operations.{runs_in, arrival_in, index_begun_in, arrival_of_in, arrived_answer_in, arrived_memory_in, follow_answer_in, follow_memory_in}
use Rattle.operations.specs.Operations.{finished_in, memory_after_in, goal_in, ran_answer_in, ran_memory_in, run_answer_in, run_memory_in, evaluate_answer_in}
use Rattle.operations.specs.Operations.{given_goal_in, gave_answer_in}
use Rattle.operations.specs.Operations.{gave_memory_in, given_answer_in, given_memory_in, request_in, request_answer_in, request_memory_in}
use Rattle.image_answers.specs.Answers.{Alike, SameAnswers}

-- where an index's code leads, and where a target's tree does
abbrev arrival_by : Bank → Ran → Arrival
arrival_by b x = record { destination = reached b x.end; count = x.count }

abbrev arrival_from : Target → ℕ → Environment → Arrival
arrival_from g k E = record { destination = destination_of E g; count = k }

module _ (m n : List ℕ) (c : Corresponds m n) where
  -- ---- what follows a value
  arrived : (v : Value) (k : ℕ) (d : Destination)
      → Alike (arrived_answer_in bytewise m v k d) (arrived_answer_in packed n v k d) (arrived_memory_in bytewise m v d) (arrived_memory_in packed n v d)
  arrived v k (cell b i) =
      let s = image-theorems.stored m n b i v c in
      record { answer = ap (after_store v k b i) s.0; memory = s.1 }
  arrived v k (fault f) = record { answer = refl; memory = image-theorems.flagged m n f c }
  arrived v k lost = record { answer = refl; memory = c }

  follows : (v : Value) (k : ℕ) (a : Arrival)
      → Alike (follow_answer_in bytewise m v k a) (follow_answer_in packed n v k a) (follow_memory_in bytewise m v a) (follow_memory_in packed n v a)
  follows v k a = by (is_finite v)
    where
      by : (t : Bool)
          → Alike (cond t (arrived_answer_in bytewise m v (k + a.count) a.destination) (Fault OutOfRange k))
          (cond t (arrived_answer_in packed n v (k + a.count) a.destination) (Fault OutOfRange k))
          (cond t (arrived_memory_in bytewise m v a.destination) (with_flag_in bytewise m OutOfRange))
          (cond t (arrived_memory_in packed n v a.destination) (with_flag_in packed n OutOfRange))
      by true = arrived v (k + a.count) a.destination
      by false = record { answer = refl; memory = image-theorems.flagged m n OutOfRange c }

  finishes : (a : Arrival) (e : Ended) (k : ℕ)
      → Alike (finished_in bytewise m a e k) (finished_in packed n a e k) (memory_after_in bytewise m a e) (memory_after_in packed n a e)
  finishes a (Ended.Done v) k = follows v k a
  finishes a (Ended.Stopped f) k = record { answer = refl; memory = image-theorems.flagged m n f c }
  finishes a Ended.Stuck k = record { answer = refl; memory = c }

  module _ (tick : ℕ) where
    one : memory_in bytewise tick m ≡ memory_in packed tick n
    one = image-theorems.environment tick m n c

    runs : (code : List ℕ) (k : ℕ) → runs_in bytewise tick code k m ≡ runs_in packed tick code k n
    runs code k = ap (λ (E : Environment). exec E (instructions code k) 0 []) one

    -- ---- where it goes
    arrives : (index : List ℕ) (b : Bank) (e : Element) → arrival_in bytewise tick index m b e ≡ arrival_in packed tick index n b e
    arrives index b (Is i) = refl
    arrives index b (By k) = ap (arrival_by b) (runs index k)

    begun : (index : List ℕ) (g : Target) → index_begun_in bytewise tick index m g ≡ index_begun_in packed tick index n g
    begun index (to_cell b i) = refl
    begun index (to_indexed b t) = ap (λ (x : Ran). x.count) (runs index (length (code_of t)))
    begun index no_target = refl

    -- ---- run
    ran : (index : List ℕ) (x : Ran) (g : Goal)
        → Alike (ran_answer_in bytewise tick index m x g) (ran_answer_in packed tick index n x g) (ran_memory_in bytewise tick index m x g)
        (ran_memory_in packed tick index n x g)
    ran index x (to b e) =
        let a = arrival_in bytewise tick index m b e in
        subst
        (λ (z : Arrival). Alike (finished_in bytewise m a x.end x.count) (finished_in packed n z x.end x.count) (memory_after_in bytewise m a x.end)
        (memory_after_in packed n z x.end))
        (arrives index b e)
        (finishes a x.end x.count)
    ran index x (none a) = record { answer = refl; memory = c }

    goals : (code : List ℕ) (k : ℕ) (target index : List ℕ) (j : ℕ) → goal_in bytewise code k target index j m ≡ goal_in packed code k target index j n
    goals code k target index j = rw (eq-eqb (length m) old_size c.left, eq-eqb (length n) image_size c.right)

    run : (code : List ℕ) (k : ℕ) (target index : List ℕ) (j : ℕ)
        → Alike (run_answer_in bytewise tick code k target index j m) (run_answer_in packed tick code k target index j n)
        (run_memory_in bytewise tick code k target index j m) (run_memory_in packed tick code k target index j n)
    run code k target index j =
        let x = runs_in bytewise tick code k m in
        let g = goal_in bytewise code k target index j m in
        subst
        (λ (y : Ran). Alike (ran_answer_in bytewise tick index m x g) (ran_answer_in packed tick index n y (goal_in packed code k target index j n))
        (ran_memory_in bytewise tick index m x g) (ran_memory_in packed tick index n y (goal_in packed code k target index j n)))
        (runs code k)
        (subst
        (λ (h : Goal). Alike (ran_answer_in bytewise tick index m x g) (ran_answer_in packed tick index n x h) (ran_memory_in bytewise tick index m x g)
        (ran_memory_in packed tick index n x h))
        (goals code k target index j)
        (ran index x g))

    -- ---- its halves
    evaluate : (code : List ℕ) (k : ℕ) → evaluate_answer_in bytewise tick code k m ≡ evaluate_answer_in packed tick code k n
    evaluate code k =
        rw (eq-eqb (length m) old_size c.left, eq-eqb (length n) image_size c.right)
        (ap (λ (x : Ran). value_answer x (verdict (instructions code k))) (runs code k))

    gave : (v : Value) (index : List ℕ) (g : Goal)
        → Alike (gave_answer_in bytewise tick v index m g) (gave_answer_in packed tick v index n g) (gave_memory_in bytewise tick v index m g)
        (gave_memory_in packed tick v index n g)
    gave v index (to b e) =
        let a = arrival_in bytewise tick index m b e in
        subst
        (λ (z : Arrival). Alike (follow_answer_in bytewise m v 0 a) (follow_answer_in packed n v 0 z) (follow_memory_in bytewise m v a) (follow_memory_in packed n v z))
        (arrives index b e)
        (follows v 0 a)
    gave v index (none a) = record { answer = refl; memory = c }

    given-goals : (target index : List ℕ) (k : ℕ) → given_goal_in bytewise target index k m ≡ given_goal_in packed target index k n
    given-goals target index k = rw (eq-eqb (length m) old_size c.left, eq-eqb (length n) image_size c.right)

    store : (v : Value) (target index : List ℕ) (k : ℕ)
        → Alike (given_answer_in bytewise tick v target index k m) (given_answer_in packed tick v target index k n)
        (given_memory_in bytewise tick v target index k m) (given_memory_in packed tick v target index k n)
    store v target index k =
        let g = given_goal_in bytewise target index k m in
        subst
        (λ (h : Goal). Alike (gave_answer_in bytewise tick v index m g) (gave_answer_in packed tick v index n h) (gave_memory_in bytewise tick v index m g)
        (gave_memory_in packed tick v index n h))
        (given-goals target index k)
        (gave v index g)

    -- ---- compile and run
    arrivals : (index : List ℕ) (g : Target) → arrival_of_in bytewise tick index m g ≡ arrival_of_in packed tick index n g
    arrivals index g =
        subst
        (λ (k : ℕ). arrival_of_in bytewise tick index m g ≡ arrival_from g k (memory_in packed tick n))
        (begun index g)
        (ap (arrival_from g (index_begun_in bytewise tick index m g)) one)

    performed : (q : Request)
        → Alike (request_answer_in bytewise tick m q) (request_answer_in packed tick n q) (request_memory_in bytewise tick m q) (request_memory_in packed tick n q)
    performed (stores g t code index) =
        let a = arrival_of_in bytewise tick index m g in
        let b = arrival_of_in packed tick index n g in
        let e = end_of (eval (memory_in bytewise tick m) t) in
        let k = (runs_in bytewise tick code (length (code_of t)) m).count in
        subst
        (λ (x : Ran). Alike (finished_in bytewise m a e k) (finished_in packed n b (end_of (eval (memory_in packed tick n) t)) x.count)
        (memory_after_in bytewise m a e) (memory_after_in packed n b (end_of (eval (memory_in packed tick n) t))))
        (runs code (length (code_of t)))
        (subst
        (λ (E : Environment). Alike (finished_in bytewise m a e k) (finished_in packed n b (end_of (eval E t)) k) (memory_after_in bytewise m a e)
        (memory_after_in packed n b (end_of (eval E t))))
        one
        (subst
        (λ (z : Arrival). Alike (finished_in bytewise m a e k) (finished_in packed n z e k) (memory_after_in bytewise m a e) (memory_after_in packed n z e))
        (arrivals index g)
        (finishes a e k)))
    performed (stops a p) = record { answer = refl; memory = c }

  requests : (target text code index : List ℕ) → request_in bytewise target text m code index ≡ request_in packed target text n code index
  requests target text code index = rw (eq-eqb (length m) old_size c.left, eq-eqb (length n) image_size c.right)

pub same-answers : SameAnswers
same-answers =
    record {
      run = λ tick code k target index j m n c. run m n c tick code k target index j;
      evaluate = λ tick code k m n c. evaluate m n c tick code k;
      store = λ tick v target index k m n c. store m n c tick v target index k;
      request = λ target text m n code index c. requests m n c target text code index;
      compile-and-run = λ tick q m n c. performed m n c tick q;
    }
