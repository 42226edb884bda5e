-- The value of every report of the profile is an integer: a run gives no other, and on a refusal and a fault it is integer 0.
use Rattle.std.specs.Prelude.{Option, Result, Some, None, Ok, Err, ⊤}
use mathlib.Core.Path.{◌≡◌, refl, ap, subst, ◌∙◌}
use mathlib.Core.Bool.{Bool, true, false, not, cond}
use mathlib.Core.List.{List}
use Prim.Native.Nat.{ℕ, ◌+◌}
use native.Mathlib.Omega.{arith}
use lib.Dec.{eqb, ltb}
use lib.ListN.{length}
use Rattle.values.specs.declared.Kind.{Kind}
use Rattle.values.specs.declared.Kind.TheVariants as K
use Rattle.values.specs.declared.Value.{Value}
use Rattle.values.specs.declared.Fault.{Fault as FaultName}
use Rattle.values.specs.declared.Fault.TheVariants.{OutOfRange}
use Rattle.values.specs.declared.Outcome.{Outcome}
use Rattle.operators.specs.Kinds.{is_int}
use Rattle.operators.specs.Laws.{OfKind, done, stopped}
use Rattle.memory.specs.declared.Bank.{Bank}
use Rattle.memory.specs.Layout.{image_size}
use Rattle.memory.specs.Store.{is_finite, store_answer}
use Rattle.memory.specs.Environment.{memory_at}
use Rattle.text.specs.Judge.{Judgement, accepted, refused}
use Rattle.text.specs.Targets.{Target, to_cell, to_indexed, no_target}
use Rattle.profile.specs.Parts.{real_value}
use Rattle.profile_text.specs.Judge.{judge_in}
use Rattle.profile_text.specs.Targets.{target_in}
use Rattle.profile_text.proofs.Parts.{kind-int}
use Rattle.code.specs.Instructions.{instructions}
use Rattle.machine.specs.declared.Ended.{Ended}
use Rattle.machine.specs.declared.Ended.TheVariants as Ended
use Rattle.machine.specs.declared.Ran.{Ran}
use Rattle.machine.specs.Machine.{runs_at, end_of}
use Rattle.machine.specs.Profile.{runs_in}
use Rattle.machine.proofs.Profile.{profile-runs}
use Rattle.verifier.specs.Profile.{verdict_in}
use Rattle.tree_code.specs.Code.{code_of}
use Rattle.compiler.specs.Compile.{coded_bytes, compiling_in}
use Rattle.compiler.proofs.Theorems.{compile-theorems}
use Rattle.targets.specs.Found.{index_bytes}
use Rattle.delivery.specs.declared.Answer.{Answer}
use Rattle.delivery.specs.declared.Answer.TheVariants.{Fault, Refused}
use Rattle.operations.specs.Operations.{report_of, compile_answer, target_answer, verdict_answer, Destination, cell, fault, lost, Arrival, arrival_of, after_store}
use Rattle.operations.specs.Operations.{arrived_answer, follow_answer, finished, Goal, to, none, value_answer, given_value, Request, stops, of_text, request_answer}
use Rattle.operations.specs.Profile.{arrival_for, goal_for, ran_answer_for, evaluate_answer_for, given_goal_for, gave_answer_for, of_target_for}
use Rattle.operations.proofs.Requests.{kinded}
use Rattle.promises.specs.Promises.{Operation, compile, compile-target, check, run, compile-and-run, store}
use Rattle.profile_laws.specs.Results.{result_for}
use Rattle.profile_laws.proofs.Asked.{took}

abbrev OfInteger : Answer → Type 0
OfInteger a = real_value (report_of a).value ≡ false

-- ---- where no value is worked out

of-compile : (j : Judgement) → OfInteger (compile_answer j)
of-compile (accepted t) = refl
of-compile (refused a p) = refl

of-target : (short : Bool) (g : Target) → OfInteger (cond short (Refused 10 0) (target_answer g))
of-target true g = refl
of-target false (to_cell b i) = refl
of-target false (to_indexed b t) = refl
of-target false no_target = refl

of-verdict : (v : Option Kind) → OfInteger (verdict_answer v)
of-verdict (Some k) = refl
of-verdict None = refl

-- ---- what follows an integer

module _ (m : List ℕ) (v : Value) (whole : real_value v ≡ false) where
  after_store_lem : (n : ℕ) (b : Bank) (i : ℕ) (s : (Result ⊤ FaultName)) → OfInteger (after_store v n b i s)
  after_store_lem n b i (Ok _) = whole
  after_store_lem n b i (Err f) = refl

  arrived : (n : ℕ) (d : Destination) → OfInteger (arrived_answer m v n d)
  arrived n (cell b i) = after_store_lem n b i (store_answer m b i v)
  arrived n (fault f) = refl
  arrived n lost = refl

  followed : (n : ℕ) (a : Arrival) → OfInteger (follow_answer m v n a)
  followed n a = by (is_finite v)
    where
      by : (b : Bool) → OfInteger (cond b (arrived_answer m v (n + a.count) a.destination) (Fault OutOfRange n))
      by true = arrived (n + a.count) a.destination
      by false = refl

-- an end that is no real
abbrev WholeEnd : Ended → Type 0
WholeEnd e = (v : Value) → e ≡ Ended.Done v → real_value v ≡ false

ended : (m : List ℕ) (a : Arrival) (n : ℕ) (e : Ended) → WholeEnd e → OfInteger (finished m a e n)
ended m a n (Ended.Done v) h = followed m v (h v refl) n a
ended m a n (Ended.Stopped f) h = refl
ended m a n Ended.Stuck h = refl

runs-whole : (tick : ℕ) (code : List ℕ) (n : ℕ) (m : List ℕ) → WholeEnd (runs_in false tick code n m).end
runs-whole tick code n m v e = profile-runs.integer tick code n m v e

-- ---- run, evaluate and store

of-run : (tick : ℕ) (index m : List ℕ) (x : Ran) → WholeEnd x.end → (g : Goal) → OfInteger (ran_answer_for false tick index m x g)
of-run tick index m x h (to b e) = ended m (arrival_for false tick index m b e) x.count x.end h
of-run tick index m x h (none a) = refl

of-value : (x : Ran) (v : (Option Kind)) (e : Ended) → x.end ≡ e → WholeEnd e → OfInteger (value_answer x v)
of-value x None e q h = refl
of-value x (Some k) (Ended.Done v) q h = rw q (h v refl)
of-value x (Some k) (Ended.Stopped f) q h = rw q refl
of-value x (Some k) Ended.Stuck q h = rw q refl

of-store : (tick : ℕ) (index m : List ℕ) (v : Value) (g : Goal) → OfInteger (gave_answer_for false tick v index m g)
of-store tick index m v (to b e) = by (real_value v) refl
  where
    by : (r : Bool) → real_value v ≡ r → OfInteger (cond r (Refused 19 0) (follow_answer m v 0 (arrival_for false tick index m b e)))
    by true h = refl
    by false h = followed m v h 0 (arrival_for false tick index m b e)
of-store tick index m v (none a) = refl

pub integers_evaluate : (code m : List ℕ) (n tick : ℕ) → OfInteger (evaluate_answer_for false tick code n m)
integers_evaluate code m n tick = by (eqb (length m) image_size)
  where
    by : (b : Bool) → OfInteger (cond b (value_answer (runs_in false tick code n m) (verdict_in false (instructions code n))) (Refused 1 0))
    by true = of-value (runs_in false tick code n m) (verdict_in false (instructions code n)) (runs_in false tick code n m).end refl (runs-whole tick code n m)
    by false = refl

-- ---- compile and run

whole-end : {k : Kind} {o : Outcome} → k ≡ K.Int → OfKind k o → WholeEnd (end_of o)
whole-end e (done w f) v q = let z : w ≡ v = cc in subst (λ (v : Value). real_value v ≡ false) z (ap (λ (k : Kind). not (is_int k)) (f ∙ e))
whole-end e (stopped f) v q = let z : ◌≡◌ {A = ℕ} 0 1 = cc in absurd (omega arith)

module _ (tick : ℕ) (text m code index : List ℕ) where
  of-text : (g : Target) (j : Judgement) → judge_in false 0 text ≡ j → OfInteger (request_answer tick m (of_text code index g j))
  of-text g (accepted t) e =
      let h = took text t e in
      ended m (arrival_of tick (index_bytes index g) m g) (runs_at tick (coded_bytes code (accepted t)) (length (code_of t)) m).count _
      (whole-end (kind-int t h.1) ((compile-theorems.demand text t h.0).kind (memory_at tick m) (kinded tick m)))
  of-text g (refused a p) e = refl

  of-request : (g : Target) → OfInteger (request_answer tick m (of_target_for false text code index g))
  of-request (to_cell b i) = of-text (to_cell b i) (judge_in false 0 text) refl
  of-request (to_indexed b t) = of-text (to_indexed b t) (judge_in false 0 text) refl
  of-request no_target = refl

  sized : (a b c : Bool) (q : Request) → OfInteger (request_answer tick m q)
      → OfInteger (request_answer tick m (cond a (cond b (stops 10 0) (cond c (stops 10 0) q)) (stops 1 0)))
  sized false b c q h = refl
  sized true true c q h = refl
  sized true false true q h = refl
  sized true false false q h = h

-- ---- all of them

pub integers : (o : Operation) (target m code index : List ℕ) → OfInteger (result_for false o target m code index).answer
integers (compile text) target m code index = of-compile (compiling_in false 0 (length code) text)
integers compile-target target m code index = of-target (ltb (length index) 16384) (target_in false target)
integers (check n) target m code index = of-verdict (verdict_in false (instructions code n))
integers (run n k tick) target m code index =
    of-run tick index m (runs_in false tick code n m) (runs-whole tick code n m) (goal_for false code n target index k m)
integers (compile-and-run text tick) target m code index =
    sized tick text m code index (eqb (length m) image_size) (ltb (length code) 16384) (ltb (length index) 16384)
    (of_target_for false text code index (target_in false target)) (of-request tick text m code index (target_in false target))
integers (store kind bits k tick) target m code index = of-store tick index m (given_value kind bits) (given_goal_for false target index k m)
