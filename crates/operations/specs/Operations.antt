-- The operations of paper 01 with the targets of paper 02: what each answers and writes, for every input. Those that are lent a memory are stated for an image
-- of any layout; contracts speak of the packed one.
use Rattle.std.specs.Prelude.{Bool, true, false, cond, List, ℕ, eqb, ltb, pos, length, Option, Some, None}
use Rattle.values.specs.declared.Value.{Value}
use Rattle.values.specs.declared.Value.TheVariants.{Int}
use Rattle.values.specs.Values.{fault_number}
use Rattle.memory.specs.declared.Bank.{Bank}
use Rattle.memory.specs.declared.Bank.TheVariants.{X}
use Rattle.memory.specs.Layout.{ImageLayout, packed}
use Rattle.memory.specs.Environment.{memory_in}
use Rattle.grammar.specs.Tree.{Tree}
use Rattle.grammar.specs.Eval.{eval}
use Rattle.text.specs.Judge.{Judgement, accepted, refused, judge}
use Rattle.text.specs.Targets.{Target, to_cell, to_indexed, no_target, target_of}
use Rattle.code.specs.Instructions.{instructions}
use Rattle.machine.specs.declared.Ended.TheVariants as Ended
use Rattle.machine.specs.declared.Ran.{Ran}
use Rattle.machine.specs.Machine.{end_of}
use Rattle.verifier.specs.Verdicts.{verdict}
pub use Rattle.verifier.specs.Verdicts.{is_accepted}
use Rattle.tree_code.specs.Code.{code_of}
use Rattle.compiler.specs.Compile.{coded_bytes}
use Rattle.targets.specs.declared.Element.{Element}
use Rattle.targets.specs.Found.{found_to_run, index_bytes}
use Rattle.delivery.specs.declared.Answer.{Answer}
use Rattle.delivery.specs.declared.Answer.TheVariants.{Done, Fault, Refused}
pub use Rattle.delivery.specs.Delivery.{Destination, cell, fault, lost, at_element, reached, destination_of, Arrival, after_store, index_passes, kind_word, bits_of}
pub use Rattle.delivery.specs.Delivery.{given_value, runs_in, arrival_in, index_begun_in, arrival_of_in, stored_answer_in, arrived_answer_in, arrived_memory_in}
pub use Rattle.delivery.specs.Delivery.{follow_answer_in, follow_memory_in, finished_in, memory_after_in, arrival, index_begun, arrival_of, stored_answer}
pub use Rattle.delivery.specs.Delivery.{arrived_answer, arrived_memory, follow_answer, follow_memory, finished, memory_after}
use Rattle.operations.specs.declared.Report.{Report}
use Rattle.values.specs.declared.Kind.{Kind}

-- the number, place, value, count and cell of each answer: "1 to 10 and 15 .. return integer 0, count 0. 11 to 14 .. return integer 0 and the instructions
-- begun .. 0 returns the value before the store and the instructions executed"; "Place is 0 for 0 to 3, 10 and above". X0, which is never stored to, stands
-- for no cell
abbrev pub report_of : Answer → Report
report_of (Done v n b i) = record { answer = 0; place = 0; value = v; count = n; bank = b; element = i }
report_of (Fault f n) = record { answer = fault_number f; place = 0; value = Int (pos 0); count = n; bank = X; element = 0 }
report_of (Refused a p) = record { answer = a; place = p; value = Int (pos 0); count = 0; bank = X; element = 0 }

-- "Compile alone returns integer 0 and the number of instructions; a check that accepts returns integer 0, count 0."
abbrev pub done_with : ℕ → Answer
done_with n = Done (Int (pos 0)) n X 0

abbrev pub compile_answer : Judgement → Answer
compile_answer (accepted t) = done_with (length (code_of t))
compile_answer (refused a p) = Refused a p

-- 15: "the given number of instructions reaches beyond the buffer, or the check does not accept them"
abbrev pub verdict_answer : Option Kind → Answer
verdict_answer (Some k) = done_with 0
verdict_answer None = Refused 15 0

abbrev pub check_answer : List ℕ → ℕ → Answer
check_answer code n = verdict_answer (verdict (instructions code n))

-- ---- compiling a target alone: the bank, a plain cell's element, and how many instructions the index has

abbrev pub target_answer : Target → Answer
target_answer (to_cell b i) = Done (Int (pos 0)) 0 b i
target_answer (to_indexed b t) = Done (Int (pos 0)) (length (code_of t)) b 0
target_answer no_target = Refused 2 0

-- "A target has its own .. code buffer of the same least size"; "a short second buffer is 10"
abbrev pub compile_target_answer : List ℕ → List ℕ → Answer
compile_target_answer index target = cond (ltb (length index) 16384) (Refused 10 0) (target_answer (target_of target))

abbrev pub compile_target_code : List ℕ → List ℕ → List ℕ
compile_target_code index target = cond (ltb (length index) 16384) index (index_bytes index (target_of target))

-- ---- where a value goes; its cell, and what follows it, stand in delivery/specs/Delivery.antt

-- where a run's value goes, or the first refusal in the order 1 "memory not 3,092 bytes", 2 the target, 15 for either code
pub data Goal : Type 0 where
  to : Bank → Element → Goal
  none : ℕ → Goal

-- of the target and the index code
abbrev pub given_goal_of : List ℕ → Option (Bank × Element) → Goal
given_goal_of index (Some (b, e)) = cond (index_passes index e) (to b e) (none 15)
given_goal_of index None = none 2

-- and of the code, which is looked at between them
abbrev pub goal_of : List ℕ → Option Kind → Option (Bank × Element) → Goal
goal_of index v (Some (b, e)) = cond (is_accepted v) (given_goal_of index (Some (b, e))) (none 15)
goal_of index v None = none 2

-- ---- a value for itself (request 8)

abbrev pub value_answer : Ran → Option Kind → Answer
value_answer x None = Refused 15 0
value_answer x (Some k) = elim x.end [ Ended.Done v ↦ Done v x.count X 0 | Ended.Stopped f ↦ Fault f x.count | Ended.Stuck ↦ Refused 15 0 ]

-- ---- compile and run

-- the target, the formula's tree, and both buffers as written; or the first refusal in the order 1, 10 for either buffer, 2, 3 to 9
pub data Request : Type 0 where
  stores : Target → Tree → List ℕ → List ℕ → Request
  stops : ℕ → ℕ → Request

abbrev pub of_text : List ℕ → List ℕ → Target → Judgement → Request
of_text code index g (accepted t) = stores g t (coded_bytes code (accepted t)) (index_bytes index g)
of_text code index g (refused a p) = stops a p

abbrev pub of_target : List ℕ → List ℕ → List ℕ → Target → Request
of_target text code index (to_cell b i) = of_text code index (to_cell b i) (judge text)
of_target text code index (to_indexed b t) = of_text code index (to_indexed b t) (judge text)
of_target text code index no_target = stops 2 0

-- "Compile-and-run writes the code on 0 and on 11 to 14"
abbrev pub request_code : List ℕ → Request → List ℕ
request_code code (stores g t written index) = written
request_code code (stops a p) = code

-- and so the index's; "a plain cell has none and keeps that buffer"
abbrev pub request_index : List ℕ → Request → List ℕ
request_index index (stores g t code written) = written
request_index index (stops a p) = index

-- ---- on an image of any layout: what each operation that is lent a memory answers, and what it leaves there
module _ (F : ImageLayout) where
  -- the code, the number of its instructions, the target, the index code, the number of its instructions, the memory
  abbrev pub goal_in : List ℕ → ℕ → List ℕ → List ℕ → ℕ → List ℕ → Goal
  goal_in code n target index k m = cond (eqb (length m) F.size) (goal_of index (verdict (instructions code n)) (found_to_run k target)) (none 1)

  -- the run x on the memory m, for such a goal; paper 02: "The tick is an input wherever a value is worked out .., the same throughout"
  abbrev pub ran_answer_in : ℕ → List ℕ → List ℕ → Ran → Goal → Answer
  ran_answer_in tick index m x (to b e) = finished_in F m (arrival_in F tick index m b e) x.end x.count
  ran_answer_in tick index m x (none a) = Refused a 0

  abbrev pub ran_memory_in : ℕ → List ℕ → List ℕ → Ran → Goal → List ℕ
  ran_memory_in tick index m x (to b e) = memory_after_in F m (arrival_in F tick index m b e) x.end
  ran_memory_in tick index m x (none a) = m

  abbrev pub run_answer_in : ℕ → List ℕ → ℕ → List ℕ → List ℕ → ℕ → List ℕ → Answer
  run_answer_in tick code n target index k m = ran_answer_in tick index m (runs_in F tick code n m) (goal_in code n target index k m)

  abbrev pub run_memory_in : ℕ → List ℕ → ℕ → List ℕ → List ℕ → ℕ → List ℕ → List ℕ
  run_memory_in tick code n target index k m = ran_memory_in tick index m (runs_in F tick code n m) (goal_in code n target index k m)

  -- ---- the two halves of a run, for themselves (request 8): "Split run into working out a value, which writes nothing, flags included, and storing a given
  -- value into a target". Refusals: 1 and 15 of the first; 1, 2 and 15 for the index code of the second

  abbrev pub evaluate_answer_in : ℕ → List ℕ → ℕ → List ℕ → Answer
  evaluate_answer_in tick code n m = cond (eqb (length m) F.size) (value_answer (runs_in F tick code n m) (verdict (instructions code n))) (Refused 1 0)

  abbrev pub given_goal_in : List ℕ → List ℕ → ℕ → List ℕ → Goal
  given_goal_in target index k m = cond (eqb (length m) F.size) (given_goal_of index (found_to_run k target)) (none 1)

  abbrev pub gave_answer_in : ℕ → Value → List ℕ → List ℕ → Goal → Answer
  gave_answer_in tick v index m (to b e) = follow_answer_in F m v 0 (arrival_in F tick index m b e)
  gave_answer_in tick v index m (none a) = Refused a 0

  abbrev pub gave_memory_in : ℕ → Value → List ℕ → List ℕ → Goal → List ℕ
  gave_memory_in tick v index m (to b e) = follow_memory_in F m v (arrival_in F tick index m b e)
  gave_memory_in tick v index m (none a) = m

  -- "The store half used alone turns on the flag of its own fault."
  abbrev pub given_answer_in : ℕ → Value → List ℕ → List ℕ → ℕ → List ℕ → Answer
  given_answer_in tick v target index k m = gave_answer_in tick v index m (given_goal_in target index k m)

  abbrev pub given_memory_in : ℕ → Value → List ℕ → List ℕ → ℕ → List ℕ → List ℕ
  given_memory_in tick v target index k m = gave_memory_in tick v index m (given_goal_in target index k m)

  -- ---- compile and run

  abbrev pub request_in : List ℕ → List ℕ → List ℕ → List ℕ → List ℕ → Request
  request_in target text m code index =
      cond (eqb (length m) F.size)
      (cond (ltb (length code) 16384) (stops 10 0) (cond (ltb (length index) 16384) (stops 10 0) (of_target text code index (target_of target))))
      (stops 1 0)

  -- "Its answer, or its fault, is the one that the written rules give" for the trees of formula and index; the counts are those of runs of their code
  abbrev pub request_answer_in : ℕ → List ℕ → Request → Answer
  request_answer_in tick m (stores g t code index) =
      finished_in F m (arrival_of_in F tick index m g) (end_of (eval (memory_in F tick m) t)) (runs_in F tick code (length (code_of t)) m).count
  request_answer_in tick m (stops a p) = Refused a p

  abbrev pub request_memory_in : ℕ → List ℕ → Request → List ℕ
  request_memory_in tick m (stores g t code index) = memory_after_in F m (arrival_of_in F tick index m g) (end_of (eval (memory_in F tick m) t))
  request_memory_in tick m (stops a p) = m

-- ---- on the box's image

abbrev pub goal : List ℕ → ℕ → List ℕ → List ℕ → ℕ → List ℕ → Goal
goal = goal_in packed

abbrev pub ran_answer : ℕ → List ℕ → List ℕ → Ran → Goal → Answer
ran_answer = ran_answer_in packed

abbrev pub ran_memory : ℕ → List ℕ → List ℕ → Ran → Goal → List ℕ
ran_memory = ran_memory_in packed

abbrev pub run_answer : ℕ → List ℕ → ℕ → List ℕ → List ℕ → ℕ → List ℕ → Answer
run_answer = run_answer_in packed

abbrev pub run_memory : ℕ → List ℕ → ℕ → List ℕ → List ℕ → ℕ → List ℕ → List ℕ
run_memory = run_memory_in packed

abbrev pub evaluate_answer : ℕ → List ℕ → ℕ → List ℕ → Answer
evaluate_answer = evaluate_answer_in packed

abbrev pub given_goal : List ℕ → List ℕ → ℕ → List ℕ → Goal
given_goal = given_goal_in packed

abbrev pub gave_answer : ℕ → Value → List ℕ → List ℕ → Goal → Answer
gave_answer = gave_answer_in packed

abbrev pub gave_memory : ℕ → Value → List ℕ → List ℕ → Goal → List ℕ
gave_memory = gave_memory_in packed

abbrev pub given_answer : ℕ → Value → List ℕ → List ℕ → ℕ → List ℕ → Answer
given_answer = given_answer_in packed

abbrev pub given_memory : ℕ → Value → List ℕ → List ℕ → ℕ → List ℕ → List ℕ
given_memory = given_memory_in packed

abbrev pub request : List ℕ → List ℕ → List ℕ → List ℕ → List ℕ → Request
request = request_in packed

abbrev pub request_answer : ℕ → List ℕ → Request → Answer
request_answer = request_answer_in packed

abbrev pub request_memory : ℕ → List ℕ → Request → List ℕ
request_memory = request_memory_in packed
