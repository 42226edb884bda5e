-- The profile and the full box (paper 02, Ask 12): "on every such formula, into a target that the feeder takes, the feeder and the full box give the same
-- answer, value, bytes and count". proofs/Theorems.antt proves the record.
use Rattle.std.specs.Prelude.{◌≡◌, ◌↔◌, ◌⊎◌, Bool, true, false, List, ℕ, ◌+◌, ◌*◌, ◌≤◌, ℤ, pos, length, Float, Some, None}
use Rattle.values.specs.declared.Kind.{Kind}
use Rattle.values.specs.declared.Kind.TheVariants as K
use Rattle.values.specs.declared.Value.TheVariants.{Int, Real}
use Rattle.operators.specs.Laws.{OfKind}
use Rattle.memory.specs.declared.Bank.{Bank}
use Rattle.memory.specs.Cells.{real_bank}
use Rattle.memory.specs.Environment.{memory_at}
use Rattle.grammar.specs.Tree.{Tree}
use Rattle.grammar.specs.Eval.{eval}
use Rattle.text.specs.Judge.{accepted}
use Rattle.text.specs.Targets.{to_indexed, no_target, index_text}
use Rattle.code.specs.Instructions.{instructions}
use Rattle.machine.specs.Machine.{max_cells, ranges_of, end_of, runs_at}
use Rattle.machine.specs.Profile.{runs_in}
use Rattle.verifier.specs.Accepts.{Accepts}
use Rattle.tree_code.specs.Code.{code_of}
use Rattle.tree_code.specs.Demand.{range_calls}
use Rattle.targets.specs.declared.Element.{Element}
use Rattle.targets.specs.declared.Element.TheVariants.{By}
use Rattle.targets.specs.Found.{found_to_run, run_target_in}
use Rattle.delivery.specs.declared.Answer.TheVariants.{Done, Refused}
use Rattle.operations.specs.Operations.{report_of, done_with, compile_target_answer, compile_target_code, run_answer, run_memory, evaluate_answer, given_answer}
use Rattle.operations.specs.Operations.{to, given_memory, request}
use Rattle.promises.specs.Terms.{compile_answer_of, compiled_code, answer_number, Room, Ends}
use Rattle.promises.specs.Promises.{Operation, compile-and-run, result_of, Faithful}
use Rattle.profile.specs.Parts.{real_value}
use Rattle.profile_text.specs.Trees.{integer_only}
use Rattle.profile_text.specs.Judge.{judge_in}
use Rattle.profile_text.specs.Targets.{target_in}
use Rattle.verifier.specs.Profile.{AcceptsIn}
use Rattle.operations.specs.Profile.{compile_answer_for, compiled_code_for, compile_target_answer_for, compile_target_code_for, check_answer_for}
use Rattle.operations.specs.Profile.{run_answer_for, run_memory_for, evaluate_answer_for, given_goal_for, given_answer_for, given_memory_for, request_for}
use Rattle.profile_laws.specs.Results.{result_for, Profiled, ProfileFrame}

-- the profile's check accepts n instructions of the code; what they leave is an integer
abbrev pub IntegerCode : List ℕ → ℕ → Type 0
IntegerCode code n = AcceptsIn false (instructions code n) K.Int

-- and where run's target is a bank, it accepts the index code too
abbrev pub IntegerIndex : ℕ → List ℕ → List ℕ → Type 0
IntegerIndex k target index = (b : Bank) (j : ℕ) → run_target_in false k target ≡ Some (b, By j) → IntegerCode index j

-- demand 3 in the profile, of n instructions compiled from a text whose tree is t
pub record IntegerFaithful (text : List ℕ) (t : Tree) (code : List ℕ) (n : ℕ) : Type 0 where
  -- all that demand 3 says of it in the full box, the values held on the way and its length included
  pub full : Faithful text t code n
  -- and the machine without reals ends and counts as the full one
  pub runs : (tick : ℕ) (m : List ℕ) → runs_in false tick code n m ≡ runs_at tick code n m
  pub same : (tick : ℕ) (m : List ℕ) → (runs_in false tick code n m).end ≡ end_of (eval (memory_at tick m) t)
  pub accepted : IntegerCode code n
  pub checked : check_answer_for false code n ≡ done_with 0
  pub quick : (tick : ℕ) (m : List ℕ) → (runs_in false tick code n m).count ≤ 2 * length text + max_cells * range_calls t
  -- the value is an integer, or there is a fault
  pub integer : (tick : ℕ) (m : List ℕ) → OfKind K.Int (eval (memory_at tick m) t)

pub record ProfileTheorems : Type 0 where
  -- with reals every operation is what it was
  pub full : (o : Operation) (target m code index : List ℕ) → result_for true o target m code index ≡ result_of o target m code index
  pub full_evaluate : (tick : ℕ) (code : List ℕ) (n : ℕ) (m : List ℕ) → evaluate_answer_for true tick code n m ≡ evaluate_answer tick code n m
  -- the code of a formula without a real part is code of the profile
  pub compiled : (t : Tree) (k : Kind) → integer_only t ≡ true → Accepts (code_of t) k → AcceptsIn false (code_of t) K.Int
  -- compile answers 0 for it, with the number of its instructions, and so does compile_target for a target with an index, with the bank
  pub compiles : (text : List ℕ) (t : Tree) (code : List ℕ) → judge_in false 0 text ≡ accepted t → Room code
      → compile_answer_for false text code ≡ done_with (length (code_of t))
  pub compiles_index : (target index : List ℕ) (b : Bank) (t : Tree) → target_in false target ≡ to_indexed b t → Room index
      → compile_target_answer_for false index target ≡ Done (Int (pos 0)) (length (code_of t)) b 0
  -- "in the profile, demand 3 speaks of the formulas that it accepts"
  pub faithful : (text : List ℕ) (t : Tree) (code : List ℕ) → judge_in false 0 text ≡ accepted t → Room code
      → IntegerFaithful text t (compiled_code_for false text code) (length (code_of t))
  -- and "for each code" (Ask 1): that of a target's index
  pub faithful_index : (target index : List ℕ) (b : Bank) (t : Tree) → target_in false target ≡ to_indexed b t → Room index
      → IntegerFaithful (index_text target) t (compile_target_code_for false index target) (length (code_of t))
  -- any other code that the profile's check accepts ends as the full box says, on the machine without reals too
  pub safe : (code : List ℕ) (n : ℕ) → IntegerCode code n
      → ((k : Kind) × Ends code n (n + max_cells * ranges_of (instructions code n)) k)
      × ((tick : ℕ) (m : List ℕ) → runs_in false tick code n m ≡ runs_at tick code n m)
  -- "an R target .. is 2": of run's targets, and store's, just those are taken whose bank is not R
  pub taken_run : (k : ℕ) (s : List ℕ) (b : Bank) (e : Element)
      → run_target_in false k s ≡ Some (b, e) ↔ ((found_to_run k s ≡ Some (b, e)) × (real_bank b ≡ false))
  -- a real that is given to be stored is 19, where neither 1, 2 nor 15 holds, and nothing is written
  pub store_real : (x : Float) (target index m : List ℕ) (k tick : ℕ) (b : Bank) (e : Element) → given_goal_for false target index k m ≡ to b e
      → (given_answer_for false tick (Real x) target index k m ≡ Refused 19 0) × (given_memory_for false tick (Real x) target index k m ≡ m)
  -- compile and run of such a formula into a target that the profile takes: whatever the memory and the buffers, also of wrong sizes
  pub same : (text : List ℕ) (t : Tree) (target m code index : List ℕ) → judge_in false 0 text ≡ accepted t → (target_in false target ≡ no_target → ⊥)
      → request_for false target text m code index ≡ request target text m code index
  -- so answer, value, count, cell, memory and both codes
  pub same_result : (text : List ℕ) (t : Tree) (target m code index : List ℕ) (tick : ℕ) → judge_in false 0 text ≡ accepted t
      → (target_in false target ≡ no_target → ⊥)
      → result_for false (compile-and-run text tick) target m code index ≡ result_of (compile-and-run text tick) target m code index
  -- run, evaluate, and store of an integer
  pub same_run : (code target index m : List ℕ) (n k tick : ℕ) → IntegerCode code n → IntegerIndex k target index → (run_target_in false k target ≡ None → ⊥)
      → (run_answer_for false tick code n target index k m ≡ run_answer tick code n target index k m)
      × (run_memory_for false tick code n target index k m ≡ run_memory tick code n target index k m)
  pub same_evaluate : (code m : List ℕ) (n tick : ℕ) → IntegerCode code n → evaluate_answer_for false tick code n m ≡ evaluate_answer tick code n m
  pub same_store : (z : ℤ) (target index m : List ℕ) (k tick : ℕ) → IntegerIndex k target index → (run_target_in false k target ≡ None → ⊥)
      → (given_answer_for false tick (Int z) target index k m ≡ given_answer tick (Int z) target index k m)
      × (given_memory_for false tick (Int z) target index k m ≡ given_memory tick (Int z) target index k m)
  -- compile, and compile of a target
  pub same_compile : (text : List ℕ) (t : Tree) (code : List ℕ) → judge_in false 0 text ≡ accepted t
      → (compile_answer_for false text code ≡ compile_answer_of text code) × (compiled_code_for false text code ≡ compiled_code text code)
  pub same_target : (target index : List ℕ) → (target_in false target ≡ no_target → ⊥)
      → (compile_target_answer_for false index target ≡ compile_target_answer index target)
      × (compile_target_code_for false index target ≡ compile_target_code index target)
  -- the check: 0 exactly if some kind is accepted, "else 15"
  pub checks : (reals : Bool) (code : List ℕ) (n : ℕ) → check_answer_for reals code n ≡ done_with 0 ↔ ((k : Kind) × AcceptsIn reals (instructions code n) k)
  pub checks_else : (reals : Bool) (code : List ℕ) (n : ℕ) → ((k : Kind) → AcceptsIn reals (instructions code n) k → ⊥)
      → check_answer_for reals code n ≡ Refused 15 0
  -- for every input whatever: the profile does what the full box does, or it refuses with 2, 15 or 19 and writes nothing
  pub either : (o : Operation) (target m code index : List ℕ) → Profiled m code index (result_for false o target m code index) (result_of o target m code index)
  pub either_evaluate : (code m : List ℕ) (n tick : ℕ)
      → (evaluate_answer_for false tick code n m ≡ evaluate_answer tick code n m) ⊎ (evaluate_answer_for false tick code n m ≡ Refused 15 0)
  -- demand 1 in the profile
  pub keeps : (o : Operation) (target m code index : List ℕ) → ProfileFrame m code index (result_for false o target m code index)
  -- the value of every report is an integer: "kind is always 0"
  pub integers : (o : Operation) (target m code index : List ℕ) → real_value (report_of (result_for false o target m code index).answer).value ≡ false
  pub integers_evaluate : (code m : List ℕ) (n tick : ℕ) → real_value (report_of (evaluate_answer_for false tick code n m)).value ≡ false
  -- no operation of the full box answers 19
  pub never_19 : (o : Operation) (target m code index : List ℕ) → answer_number (result_of o target m code index).answer ≡ 19 → ⊥
  pub never_19_evaluate : (code m : List ℕ) (n tick : ℕ) → answer_number (evaluate_answer tick code n m) ≡ 19 → ⊥
