-- The operations of the full box (reals true) and of the profile without reals (false; paper 02, Ask 12): what each answers and writes, for every input. Each
-- is the definition of Operations.antt over `judge_in`, `target_in`, `verdict_in` and `runs_in`. (The names `..In` of that file say that an image has any layout.)
use Rattle.std.specs.Prelude.{Bool, cond, List, ℕ, eqb, ltb, length, Option, Some, None}
use Rattle.values.specs.declared.Value.{Value}
use Rattle.memory.specs.Layout.{image_size}
use Rattle.text.specs.Targets.{Target, to_cell, to_indexed, no_target}
use Rattle.profile_text.specs.Judge.{judge_in}
use Rattle.profile_text.specs.Targets.{target_in}
use Rattle.code.specs.Instructions.{instructions}
use Rattle.machine.specs.declared.Ran.{Ran}
use Rattle.machine.specs.Profile.{runs_in}
use Rattle.verifier.specs.Profile.{verdict_in}
use Rattle.compiler.specs.Compile.{compiling_in, coded_bytes}
use Rattle.targets.specs.Found.{run_target_in, index_bytes}
use Rattle.delivery.specs.declared.Answer.{Answer}
use Rattle.delivery.specs.declared.Answer.TheVariants.{Refused}
pub use Rattle.delivery.specs.Profile.{arrival_for, index_passes_for, unstorable}
use Rattle.operations.specs.Operations.{compile_answer, verdict_answer, target_answer, Goal, to, none, is_accepted, value_answer}
use Rattle.operations.specs.Operations.{finished, memory_after, follow_answer, follow_memory, Request, stops, of_text}
use Rattle.values.specs.declared.Kind.{Kind}
use Rattle.memory.specs.declared.Bank.{Bank}
use Rattle.targets.specs.declared.Element.{Element}

-- ---- compile

abbrev pub compile_answer_for : Bool → List ℕ → List ℕ → Answer
compile_answer_for reals text code = compile_answer (compiling_in reals 0 (length code) text)

abbrev pub compiled_code_for : Bool → List ℕ → List ℕ → List ℕ
compiled_code_for reals text code = coded_bytes code (compiling_in reals 0 (length code) text)

-- ---- compile a target

abbrev pub compile_target_answer_for : Bool → List ℕ → List ℕ → Answer
compile_target_answer_for reals index target = cond (ltb (length index) 16384) (Refused 10 0) (target_answer (target_in reals target))

abbrev pub compile_target_code_for : Bool → List ℕ → List ℕ → List ℕ
compile_target_code_for reals index target = cond (ltb (length index) 16384) index (index_bytes index (target_in reals target))

-- ---- check: "holds only integers and has no instruction that reads R, else 15"

abbrev pub check_answer_for : Bool → List ℕ → ℕ → Answer
check_answer_for reals code n = verdict_answer (verdict_in reals (instructions code n))

-- ---- run

-- 2 and 15, in this order
abbrev pub given_goal_of_for : Bool → List ℕ → Option (Bank × Element) → Goal
given_goal_of_for reals index (Some (b, e)) = cond (index_passes_for reals index e) (to b e) (none 15)
given_goal_of_for reals index None = none 2

abbrev pub goal_of_for : Bool → List ℕ → Option Kind → Option (Bank × Element) → Goal
goal_of_for reals index v (Some (b, e)) = cond (is_accepted v) (given_goal_of_for reals index (Some (b, e))) (none 15)
goal_of_for reals index v None = none 2

abbrev pub goal_for : Bool → List ℕ → ℕ → List ℕ → List ℕ → ℕ → List ℕ → Goal
goal_for reals code n target index k m =
    cond (eqb (length m) image_size) (goal_of_for reals index (verdict_in reals (instructions code n)) (run_target_in reals k target)) (none 1)

abbrev pub ran_answer_for : Bool → ℕ → List ℕ → List ℕ → Ran → Goal → Answer
ran_answer_for reals tick index m x (to b e) = finished m (arrival_for reals tick index m b e) x.end x.count
ran_answer_for reals tick index m x (none a) = Refused a 0

abbrev pub ran_memory_for : Bool → ℕ → List ℕ → List ℕ → Ran → Goal → List ℕ
ran_memory_for reals tick index m x (to b e) = memory_after m (arrival_for reals tick index m b e) x.end
ran_memory_for reals tick index m x (none a) = m

abbrev pub run_answer_for : Bool → ℕ → List ℕ → ℕ → List ℕ → List ℕ → ℕ → List ℕ → Answer
run_answer_for reals tick code n target index k m = ran_answer_for reals tick index m (runs_in reals tick code n m) (goal_for reals code n target index k m)

abbrev pub run_memory_for : Bool → ℕ → List ℕ → ℕ → List ℕ → List ℕ → ℕ → List ℕ → List ℕ
run_memory_for reals tick code n target index k m = ran_memory_for reals tick index m (runs_in reals tick code n m) (goal_for reals code n target index k m)

-- ---- evaluate, and store

abbrev pub evaluate_answer_for : Bool → ℕ → List ℕ → ℕ → List ℕ → Answer
evaluate_answer_for reals tick code n m =
    cond (eqb (length m) image_size) (value_answer (runs_in reals tick code n m) (verdict_in reals (instructions code n))) (Refused 1 0)

abbrev pub given_goal_for : Bool → List ℕ → List ℕ → ℕ → List ℕ → Goal
given_goal_for reals target index k m = cond (eqb (length m) image_size) (given_goal_of_for reals index (run_target_in reals k target)) (none 1)

-- a real is 19 where the full box looks for an infinity or a NaN: after 1, 2 and 15, before the index (docs/DECISIONS.md)
abbrev pub gave_answer_for : Bool → ℕ → Value → List ℕ → List ℕ → Goal → Answer
gave_answer_for reals tick v index m (to b e) = cond (unstorable reals v) (Refused 19 0) (follow_answer m v 0 (arrival_for reals tick index m b e))
gave_answer_for reals tick v index m (none a) = Refused a 0

abbrev pub gave_memory_for : Bool → ℕ → Value → List ℕ → List ℕ → Goal → List ℕ
gave_memory_for reals tick v index m (to b e) = cond (unstorable reals v) m (follow_memory m v (arrival_for reals tick index m b e))
gave_memory_for reals tick v index m (none a) = m

abbrev pub given_answer_for : Bool → ℕ → Value → List ℕ → List ℕ → ℕ → List ℕ → Answer
given_answer_for reals tick v target index k m = gave_answer_for reals tick v index m (given_goal_for reals target index k m)

abbrev pub given_memory_for : Bool → ℕ → Value → List ℕ → List ℕ → ℕ → List ℕ → List ℕ
given_memory_for reals tick v target index k m = gave_memory_for reals tick v index m (given_goal_for reals target index k m)

-- ---- compile and run: the answer, the memory and both buffers are functions of the request, as in the full box

abbrev pub of_target_for : Bool → List ℕ → List ℕ → List ℕ → Target → Request
of_target_for reals text code index (to_cell b i) = of_text code index (to_cell b i) (judge_in reals 0 text)
of_target_for reals text code index (to_indexed b t) = of_text code index (to_indexed b t) (judge_in reals 0 text)
of_target_for reals text code index no_target = stops 2 0

abbrev pub request_for : Bool → List ℕ → List ℕ → List ℕ → List ℕ → List ℕ → Request
request_for reals target text m code index =
    cond (eqb (length m) image_size)
    (cond (ltb (length code) 16384) (stops 10 0) (cond (ltb (length index) 16384) (stops 10 0) (of_target_for reals text code index (target_in reals target))))
    (stops 1 0)
