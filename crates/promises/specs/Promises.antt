-- The user's three demands, as theorems about the operations: read this first. `result_of` gathers the contracts of the crate operations; that each of
-- them ends, whatever it is given, is part of every function's proof. What is written, the demands' word, is `AcceptedFormula` and `HasJudgement` for texts,
-- `CellTarget` and `IndexedTarget` of Targets.antt for targets, `eval` for trees and `Code.Accepts` for code. proofs/Promises.antt proves `Promises`.
use Rattle.std.specs.Prelude.{◌≡◌, true, ◌↔◌, List, ℕ, ◌+◌, ◌*◌, ◌≤◌, ◌<◌, length, get_or, set, take, None}
use Rattle.words.specs.Laws.{Bytes}
use Rattle.values.specs.declared.Kind.{Kind}
use Rattle.values.specs.declared.Fault.{Fault}
use Rattle.values.specs.Values.{fault_number}
use Rattle.memory.specs.declared.Bank.{Bank}
use Rattle.memory.specs.Layout.{image_size, flag_at}
use Rattle.memory.specs.Environment.{memory_at}
use Rattle.images.specs.Theorems.{SameCells}
use Rattle.grammar.specs.Tree.{Tree, tree_kind}
use Rattle.grammar.specs.Eval.{eval}
use Rattle.text.specs.Judge.{Judgement, refused, judge}
use Rattle.text.specs.Targets.{to_indexed, no_target, index_text, target_of}
use Rattle.text.specs.Theorems.{AcceptedFormula, HasJudgement}
use Rattle.code.specs.Instructions.{instructions}
use Rattle.machine.specs.Machine.{max_cells, ranges_of, runs_at, end_of}
use Rattle.verifier.specs.Accepts as Code
use Rattle.tree_code.specs.Demand.{range_calls}
use Rattle.targets.specs.declared.Element.{Element}
use Rattle.targets.specs.declared.Element.TheVariants.{Is, By}
use Rattle.targets.specs.Found.{found_of, found_to_run}
use Rattle.delivery.specs.declared.Answer.{Answer}
use Rattle.delivery.specs.declared.Answer.TheVariants.{Refused}
use Rattle.operations.specs.Operations.{report_of, done_with, check_answer, compile_target_answer, compile_target_code, arrival, arrival_of, index_passes}
use Rattle.operations.specs.Operations.{run_answer, run_memory}
use Rattle.operations.specs.Operations.{given_value, given_answer, given_memory, request, request_answer, request_memory, request_code, request_index}
use Rattle.promises.specs.Terms.{compile_answer_of, compiled_code, answer_number, Refusal, Ready, ReadyToRun, Plain, Room, Names, SameBut}
use Rattle.promises.specs.Terms.{StoredOrFault, plain_answer, plain_memory, Finite, Ends}

-- "compile alone (expression, code buffer), check (code buffer, number of instructions), run (those, memory, target), and compile-and-run (all but the
-- number)"; paper 02: "A run takes the bank and the index code", of so many instructions; "The tick is an input wherever a value is worked out"; "storing a
-- given value", of a kind and a pattern. Evaluate is lent the memory to read only, so it writes nothing, on a fault too
pub data Operation : Type 0 where
  compile : List ℕ → Operation
  compile-target : Operation
  check : ℕ → Operation
  run : ℕ → ℕ → ℕ → Operation
  compile-and-run : List ℕ → ℕ → Operation
  store : ℕ → ℕ → ℕ → ℕ → Operation

-- an operation's answer, and what the memory and the buffers for the code and for the index's code have become
pub record OperationResult : Type 0 where
  pub answer : Answer
  pub memory : List ℕ
  pub code : List ℕ
  pub index : List ℕ

-- "For every input .. each public operation's contract determines the result and every byte of memory and code buffer, by an equation": with the target, the
-- memory m, the code and the index's code; one that is lent no memory or buffer leaves any as it was
abbrev pub result_of : Operation → List ℕ → List ℕ → List ℕ → List ℕ → OperationResult
result_of (compile text) target m code index = record { answer = compile_answer_of text code; memory = m; code = compiled_code text code; index = index }
result_of compile-target target m code index =
    record { answer = compile_target_answer index target; memory = m; code = code; index = compile_target_code index target }
result_of (check n) target m code index = record { answer = check_answer code n; memory = m; code = code; index = index }
result_of (run n k tick) target m code index =
    record { answer = run_answer tick code n target index k m; memory = run_memory tick code n target index k m; code = code; index = index }
result_of (compile-and-run text tick) target m code index =
    let q = request target text m code index in
    record { answer = request_answer tick m q; memory = request_memory tick m q; code = request_code code q; index = request_index index q }
result_of (store kind bits k tick) target m code index =
    let v = given_value kind bits in
    record { answer = given_answer tick v target index k m; memory = given_memory tick v target index k m; code = code; index = index }

-- demand 1, of an operation's result
pub record FrameConditions (m code index : List ℕ) (x : OperationResult) : Type 0 where
  -- "each operation ends with an answer from the numbered list"
  pub listed : answer_number x.answer ≤ 15
  -- "A refusal of the request writes nothing."
  pub refused : Refusal (answer_number x.answer) → (x.memory ≡ m) × ((x.code ≡ code) × (x.index ≡ index))
  -- "In the memory, a fault of a run, its store included, turns on its one flag and writes nothing else,"
  pub fault : (f : Fault) → answer_number x.answer ≡ fault_number f → x.memory ≡ set m (flag_at f) 1
  -- "and a successful run writes the target cell only.": the cell that the answer names
  pub done : answer_number x.answer ≡ 0 → SameBut (report_of x.answer).bank (report_of x.answer).element m x.memory
  -- none grows or shrinks
  pub sizes : (length x.memory ≡ length m) × ((length x.code ≡ length code) × (length x.index ≡ length index))

-- demand 3, of n instructions compiled from a text whose tree is t
pub record Faithful (text : List ℕ) (t : Tree) (code : List ℕ) (n : ℕ) : Type 0 where
  -- "its compiled code gives what the written rules give for the formula's tree on that memory"
  pub same : (tick : ℕ) (m : List ℕ) → (runs_at tick code n m).end ≡ end_of (eval (memory_at tick m) t)
  -- "The code check accepts that code,"
  pub accepted : check_answer code n ≡ done_with 0
  -- "which executes at most two instructions for each character and never holds more than 128 values."; paper 02, Ask 2: "the bound is two a byte, .. plus 256
  -- for each such call"
  pub ends : Ends code n (2 * length text + max_cells * range_calls t) (tree_kind t)
  -- "A compiled formula has at most two instructions a byte."
  pub short : n ≤ 2 * length text

-- two operations answer the same, value, count and cell included, and leave the same memory, the same n instructions and the same k of the index
pub record Agree (n k : ℕ) (x y : OperationResult) : Type 0 where
  pub answer : x.answer ≡ y.answer
  pub memory : x.memory ≡ y.memory
  pub code : take (8 * n) x.code ≡ take (8 * n) y.code
  pub index : take (8 * k) x.index ≡ take (8 * k) y.index

-- what run is given of a good target: the plain cell's text, or the bank letter alone, and the number of its index's instructions
abbrev pub text_to_run : List ℕ → Element → List ℕ
text_to_run target (Is i) = target
text_to_run target (By k) = take 1 target

abbrev pub count_to_run : Element → ℕ
count_to_run (Is i) = 0
count_to_run (By k) = k

pub record Promises : Type 0 where
  -- 1. "Any text, any memory, any code bytes"
  pub keeps : (o : Operation) (target m code index : List ℕ) → FrameConditions m code index (result_of o target m code index)
  -- cells and flags are all of a memory: two of bytes that agree on them are equal
  pub covered : (m n : List ℕ) → length m ≡ image_size → length n ≡ image_size → Bytes m → Bytes n → SameCells m n → m ≡ n
  -- the cell stored to: a plain target's own, otherwise one of the target's bank
  pub runs_to : (code index target m : List ℕ) (n k tick : ℕ) → let x = result_of (run n k tick) target m code index in
      answer_number x.answer ≡ 0 → Names (found_to_run k target) (report_of x.answer).bank (report_of x.answer).element
  pub given_to : (code index target m : List ℕ) (kind bits k tick : ℕ) → let x = result_of (store kind bits k tick) target m code index in
      answer_number x.answer ≡ 0 → Names (found_to_run k target) (report_of x.answer).bank (report_of x.answer).element
  pub stores_to : (text code index target m : List ℕ) (tick : ℕ) → let x = result_of (compile-and-run text tick) target m code index in
      answer_number x.answer ≡ 0 → Names (found_of (target_of target)) (report_of x.answer).bank (report_of x.answer).element
  -- "Compiling writes only its code, into the buffer lent for it.": a formula, and a target's index
  pub only_code : (text code : List ℕ) (n k : ℕ) → compile_answer_of text code ≡ done_with n → 8 * n ≤ k → get_or (compiled_code text code) k 0 ≡ get_or code k 0
  pub only_index : (target index : List ℕ) (k : ℕ) → 8 * (report_of (compile_target_answer index target)).count ≤ k
      → get_or (compile_target_code index target) k 0 ≡ get_or index k 0
  -- "Order, an operation testing those that it has inputs for: 1, 10, 2, .. 15": the refusals that are no text's, each where none before it holds
  pub wrong_memory : (text code index target m : List ℕ) (n k tick : ℕ) → (length m ≡ image_size → ⊥)
      → ((result_of (run n k tick) target m code index).answer ≡ Refused 1 0) × ((result_of (compile-and-run text tick) target m code index).answer ≡ Refused 1 0)
  pub small_buffer : (text code index target m : List ℕ) (tick : ℕ) → length code < 16384
      → (compile_answer_of text code ≡ Refused 10 0) × (length m ≡ image_size → (result_of (compile-and-run text tick) target m code index).answer ≡ Refused 10 0)
  -- "a short second buffer is 10", for a plain cell too
  pub small_index : (text code index target m : List ℕ) (tick : ℕ) → length index < 16384
      → (compile_target_answer index target ≡ Refused 10 0)
      × (length m ≡ image_size → Room code → (result_of (compile-and-run text tick) target m code index).answer ≡ Refused 10 0)
  -- "a bad target is 2 with place 0 whatever is wrong inside"
  pub bad_target : (text code index target m : List ℕ) (tick : ℕ) → Room index → target_of target ≡ no_target
      → (compile_target_answer index target ≡ Refused 2 0)
      × (length m ≡ image_size → Room code → (result_of (compile-and-run text tick) target m code index).answer ≡ Refused 2 0)
  pub bad_run_target : (code index target m : List ℕ) (n k tick : ℕ) → length m ≡ image_size → found_to_run k target ≡ None
      → (result_of (run n k tick) target m code index).answer ≡ Refused 2 0
  pub wrong_code : (code index : List ℕ) (n k tick : ℕ) {target m : List ℕ} {b : Bank} {e : Element} → ReadyToRun k target m b e
      → ((j : Kind) → Code.Accepts (instructions code n) j → ⊥)
      → (check_answer code n ≡ Refused 15 0) × ((result_of (run n k tick) target m code index).answer ≡ Refused 15 0)
  pub wrong_index : (code index : List ℕ) (n k j tick : ℕ) {target m : List ℕ} {b : Bank} → ReadyToRun k target m b (By j) → check_answer code n ≡ done_with 0
      → ((i : Kind) → Code.Accepts (instructions index j) i → ⊥)
      → (result_of (run n k tick) target m code index).answer ≡ Refused 15 0
  -- 2. "A formula is accepted exactly if it follows the written grammar, names, number ranges, length, nesting and kinds of number.", by compile and by
  -- compile-and-run; why any other text is not
  pub compiles : (text code : List ℕ) → Room code → answer_number (compile_answer_of text code) ≡ 0 ↔ ((t : Tree) × AcceptedFormula text t)
  pub performs : (text code index : List ℕ) (tick : ℕ) {target m : List ℕ} {b : Bank} {e : Element} → Ready target m b e → Room code → Room index
      → (Refusal (answer_number (result_of (compile-and-run text tick) target m code index).answer) → ⊥) ↔ ((t : Tree) × AcceptedFormula text t)
  pub judged : (text : List ℕ) → HasJudgement text (judge text)
  -- "the index within a good target being an accepted formula too"
  pub index_accepted : (target : List ℕ) (b : Bank) (t : Tree) → target_of target ≡ to_indexed b t → AcceptedFormula (index_text target) t
  -- "Given exactly if": no text has another judgement; the place of a refusal lies in the text
  pub judged_only : (text : List ℕ) (j : Judgement) → HasJudgement text j → j ≡ judge text
  pub places : (text : List ℕ) (a p : ℕ) → judge text ≡ refused a p → (p ≤ length text) × (p ≤ 1024)
  -- "Its answer, or its fault, is the one that the written rules give", for the formula and for the index; the counts are those of their code
  pub answers : {text target m : List ℕ} (code index : List ℕ) (tick : ℕ) {b : Bank} {e : Element} {n : ℕ} {t : Tree}
      → Ready target m b e → Room index → AcceptedFormula text t → compile_answer_of text code ≡ done_with n
      → let x = result_of (compile-and-run text tick) target m code index in
      StoredOrFault m (runs_at tick (compiled_code text code) n m).count (arrival_of tick (compile_target_code index target) m (target_of target))
      (end_of (eval (memory_at tick m) t)) x.answer x.memory
  -- "an infinite result is 12", "Reading an R cell that holds an infinity or NaN is 13": so a formula gives none, and nor does any code
  pub finite : {text : List ℕ} {t : Tree} (tick : ℕ) (m : List ℕ) → AcceptedFormula text t → Bytes m → Finite (end_of (eval (memory_at tick m) t))
  pub finite_code : (code : List ℕ) (n tick : ℕ) (m : List ℕ) → Bytes code → Bytes m → Finite (runs_at tick code n m).end
  -- 3. "For every accepted formula, and whatever a memory of the right size holds"; paper 02: "demand 3 then holds for every tick", and "for each code"
  pub faithful : {text : List ℕ} {t : Tree} {n : ℕ} (code : List ℕ) → AcceptedFormula text t → compile_answer_of text code ≡ done_with n
      → Faithful text t (compiled_code text code) n
  pub faithful_index : (target index : List ℕ) (b : Bank) (t : Tree) → target_of target ≡ to_indexed b t → Room index
      → Faithful (index_text target) t (compile_target_code index target) (report_of (compile_target_answer index target)).count
  -- "compile-and-run, where none of 1, 2 and 10 holds, writes and runs the same": no more "one way on the desk and another in the box". The desk
  -- compiles formula and target into buffers of its own, and the box runs those codes or compiles the texts itself.
  pub desk_and_box : (text desk box desk-index box-index : List ℕ) (tick : ℕ) {target m : List ℕ} {b : Bank} {e : Element} {n : ℕ} → Ready target m b e
      → Room box → Room desk-index → Room box-index → compile_answer_of text desk ≡ done_with n
      → Agree n (count_to_run e) (result_of (run n (count_to_run e) tick) (text_to_run target e) m (compiled_code text desk) (compile_target_code desk-index target))
      (result_of (compile-and-run text tick) target m box box-index)
  pub same_refusal : (text desk box index : List ℕ) (tick : ℕ) {target m : List ℕ} {b : Bank} {e : Element} {a p : ℕ} → Ready target m b e → Room desk
      → Room box
      → Room index → compile_answer_of text desk ≡ Refused a p → (result_of (compile-and-run text tick) target m box index).answer ≡ Refused a p
  pub same_code : (text code index : List ℕ) (tick : ℕ) {target m : List ℕ} {b : Bank} {e : Element} → Ready target m b e → Room code → Room index
      → (result_of (compile-and-run text tick) target m code index).code ≡ compiled_code text code
  pub same_index : {text : List ℕ} {t : Tree} (code index : List ℕ) (tick : ℕ) {target m : List ℕ} {b : Bank} {e : Element} → Ready target m b e → Room code
      → Room index → AcceptedFormula text t → (result_of (compile-and-run text tick) target m code index).index ≡ compile_target_code index target
  -- "The check accepts exactly code of ..", and "Every other code is 15."
  pub checks : (code : List ℕ) (n : ℕ) → check_answer code n ≡ done_with 0 ↔ ((k : Kind) × Code.Accepts (instructions code n) k)
  -- "Any other code that the code check accepts, whatever the memory holds, also reaches its end or a fault. It executes at most as many instructions as it
  -- has, is never short of a value and never holds more than 128."; paper 02, Ask 2: "a checked code's length, plus 256 for each such call"; and what run then
  -- answers and stores
  pub safe : (code : List ℕ) (n : ℕ) → check_answer code n ≡ done_with 0 → (k : Kind) × Ends code n (n + max_cells * ranges_of (instructions code n)) k
  pub runs_code : (code index : List ℕ) (n k tick : ℕ) {target m : List ℕ} {b : Bank} {e : Element} → ReadyToRun k target m b e
      → check_answer code n ≡ done_with 0 → index_passes index e ≡ true
      → let x = result_of (run n k tick) target m code index in
      StoredOrFault m (runs_at tick code n m).count (arrival tick index m b e) (runs_at tick code n m).end x.answer x.memory
  -- a plain cell is stored to as before targets had an index: by run whatever the index code, by compile-and-run with the second buffer as it was
  pub plain_run : (code index : List ℕ) (n k tick : ℕ) {target m : List ℕ} {b : Bank} {i : ℕ} → Plain target m b i → check_answer code n ≡ done_with 0
      → let x = result_of (run n k tick) target m code index in
      (x.answer ≡ plain_answer m b i (runs_at tick code n m).end (runs_at tick code n m).count) × (x.memory ≡ plain_memory m b i (runs_at tick code n m).end)
  pub plain_request : {text target m : List ℕ} (code index : List ℕ) (tick : ℕ) {b : Bank} {i n : ℕ} {t : Tree}
      → Plain target m b i → Room index → AcceptedFormula text t → compile_answer_of text code ≡ done_with n
      → let x = result_of (compile-and-run text tick) target m code index in
      let e = end_of (eval (memory_at tick m) t) in
      (x.answer ≡ plain_answer m b i e (runs_at tick (compiled_code text code) n m).count) × ((x.memory ≡ plain_memory m b i e) × (x.index ≡ index))
