-- Request 8: "Split run into working out a value, which writes nothing, flags included, and storing a given value into a target .. The old run tests its
-- refusals first, then becomes the two in turn, turns on the flag where the first half faults, and answers exactly as before." proofs/Halves.antt proves
-- `Halves`.
use Rattle.std.specs.Prelude.{◌≡◌, true, false, List, ℕ, ◌+◌, ◌≤◌, length, set, None}
use Rattle.words.specs.Laws.{Bytes}
use Rattle.values.specs.declared.Kind.{Kind}
use Rattle.values.specs.declared.Value.{Value}
use Rattle.values.specs.declared.Fault.{Fault as FaultName}
use Rattle.values.specs.declared.Fault.TheVariants.{OutOfRange}
use Rattle.operators.specs.Laws.{Proper}
use Rattle.memory.specs.declared.Bank.{Bank}
use Rattle.memory.specs.declared.Bank.TheVariants.{X}
use Rattle.memory.specs.Layout.{image_size, flag_at}
use Rattle.memory.specs.Store.{is_finite, with_flag}
use Rattle.memory.specs.Environment.{memory_at}
use Rattle.grammar.specs.Tree.{Tree}
use Rattle.grammar.specs.Eval.{eval}
use Rattle.text.specs.Targets.{Target}
use Rattle.text.specs.Theorems.{AcceptedFormula}
use Rattle.code.specs.Instructions.{instructions}
use Rattle.machine.specs.declared.Ended.{Ended}
use Rattle.machine.specs.declared.Ended.TheVariants as Ended
use Rattle.machine.specs.Machine.{runs_at, end_of}
use Rattle.verifier.specs.Accepts as Code
use Rattle.tree_code.specs.Code.{code_of}
use Rattle.targets.specs.declared.Element.{Element}
use Rattle.targets.specs.declared.Element.TheVariants.{By}
use Rattle.targets.specs.Found.{found_to_run}
use Rattle.delivery.specs.declared.Answer.{Answer}
use Rattle.delivery.specs.declared.Answer.TheVariants.{Done, Fault, Refused}
use Rattle.operations.specs.Operations.{done_with, check_answer, compile_target_code, to, goal, run_answer, run_memory, arrival, arrival_of, index_passes}
use Rattle.operations.specs.Operations.{follow_answer, follow_memory}
use Rattle.operations.specs.Operations.{evaluate_answer, kind_word, bits_of, given_value, given_answer, given_memory, stores, request, request_answer, request_memory}
use Rattle.promises.specs.Terms.{compile_answer_of, compiled_code, answer_number, ReadyToRun, StoredOrFault, Ready, Room}
use Rattle.promises.specs.Promises.{text_to_run, count_to_run}

-- the counts of the two halves are added; a refusal has none
abbrev pub counted : ℕ → Answer → Answer
counted c (Done v n b i) = Done v (c + n) b i
counted c (Fault f n) = Fault f (c + n)
counted c (Refused a p) = Refused a p

-- what is answered of a run's end and count: the value, which no cell has yet, or the fault
pub data ValueOrFault : Ended → ℕ → Answer → Type 0 where
  value : {v : Value} {n : ℕ} → ValueOrFault (Ended.Done v) n (Done v n X 0)
  fault : {f : FaultName} {n : ℕ} → ValueOrFault (Ended.Stopped f) n (Fault f n)

pub record Halves : Type 0 where
  -- "working out a value, which writes nothing, flags included", since evaluate is lent the memory to read. Its refusals, in their order
  pub evaluate_wrong_memory : (code m : List ℕ) (n tick : ℕ) → (length m ≡ image_size → ⊥) → evaluate_answer tick code n m ≡ Refused 1 0
  pub evaluate_wrong_code : (code m : List ℕ) (n tick : ℕ) → length m ≡ image_size → ((j : Kind) → Code.Accepts (instructions code n) j → ⊥)
      → evaluate_answer tick code n m ≡ Refused 15 0
  -- where none holds, the end and the count of the code's run; of compiled code that end is what the rules give
  pub evaluates : (code m : List ℕ) (n tick : ℕ) → length m ≡ image_size → check_answer code n ≡ done_with 0
      → ValueOrFault (runs_at tick code n m).end (runs_at tick code n m).count (evaluate_answer tick code n m)
  pub evaluates_formula : {text : List ℕ} {t : Tree} {n : ℕ} (code m : List ℕ) (tick : ℕ) → length m ≡ image_size
      → AcceptedFormula text t → compile_answer_of text code ≡ done_with n
      → let written = compiled_code text code in
      ValueOrFault (end_of (eval (memory_at tick m) t)) (runs_at tick written n m).count (evaluate_answer tick written n m)
  -- so it "ends with an answer from the numbered list"
  pub evaluate_listed : (code m : List ℕ) (n tick : ℕ) → answer_number (evaluate_answer tick code n m) ≤ 15
  -- "storing a given value into a target": store's refusals, in their order
  pub store_wrong_memory : (v : Value) (target index m : List ℕ) (k tick : ℕ) → (length m ≡ image_size → ⊥) → given_answer tick v target index k m ≡ Refused 1 0
  pub store_bad_target : (v : Value) (target index m : List ℕ) (k tick : ℕ) → length m ≡ image_size → found_to_run k target ≡ None
      → given_answer tick v target index k m ≡ Refused 2 0
  pub store_wrong_index : (v : Value) (index : List ℕ) (k j tick : ℕ) {target m : List ℕ} {b : Bank} → ReadyToRun k target m b (By j)
      → ((i : Kind) → Code.Accepts (instructions index j) i → ⊥) → given_answer tick v target index k m ≡ Refused 15 0
  -- where none holds it "may fault with 13 or, for an indexed target, its index fault", and "turns on the flag of its own fault"; its count is of the index
  -- code
  pub stores_given : (v : Value) (index : List ℕ) (k tick : ℕ) {target m : List ℕ} {b : Bank} {e : Element}
      → ReadyToRun k target m b e → index_passes index e ≡ true
      → StoredOrFault m 0 (arrival tick index m b e) (Ended.Done v) (given_answer tick v target index k m) (given_memory tick v target index k m)
  -- "storing a real that is infinite or NaN, into any target, is 13, before the index is worked out"
  pub stores_infinite : (v : Value) (index : List ℕ) (k tick : ℕ) {target m : List ℕ} {b : Bank} {e : Element}
      → ReadyToRun k target m b e → index_passes index e ≡ true → is_finite v ≡ false
      → (given_answer tick v target index k m ≡ Fault OutOfRange 0) × (given_memory tick v target index k m ≡ set m (flag_at OutOfRange) 1)
  -- where none of run's refusals holds and the first half faults, run turns on that flag
  pub faults : (code target index m : List ℕ) (n k tick : ℕ) {b : Bank} {e : Element} {f : FaultName} {c : ℕ} → goal code n target index k m ≡ to b e
      → evaluate_answer tick code n m ≡ Fault f c
      → (run_answer tick code n target index k m ≡ Fault f c) × (run_memory tick code n target index k m ≡ with_flag m f)
  -- where the first half gives v with the count c, of instructions and of cells that totals visited, run does with it what the second half does, and adds c;
  -- its refusals of target and index code are the second half's too
  pub gives : (code target index m : List ℕ) (n k tick : ℕ) {v : Value} {c : ℕ} → evaluate_answer tick code n m ≡ Done v c X 0
      → (run_answer tick code n target index k m ≡ counted c (given_answer tick v target index k m))
      × (run_memory tick code n target index k m ≡ given_memory tick v target index k m)
  -- the same of compile-and-run, whose first half is what the rules give
  pub request_faults : (target text m code index : List ℕ) (tick : ℕ) (g : Target) (t : Tree) (code' index' : List ℕ) {f : FaultName}
      → request target text m code index ≡ stores g t code' index' → end_of (eval (memory_at tick m) t) ≡ Ended.Stopped f
      → let q = request target text m code index in
      (request_answer tick m q ≡ Fault f (runs_at tick code' (length (code_of t)) m).count) × (request_memory tick m q ≡ with_flag m f)
  pub request_gives : (target text m code index : List ℕ) (tick : ℕ) (g : Target) (t : Tree) (code' index' : List ℕ) {v : Value}
      → request target text m code index ≡ stores g t code' index' → end_of (eval (memory_at tick m) t) ≡ Ended.Done v
      → let q = request target text m code index in
      (request_answer tick m q ≡ counted (runs_at tick code' (length (code_of t)) m).count (follow_answer m v 0 (arrival_of tick index' m g)))
      × (request_memory tick m q ≡ follow_memory m v (arrival_of tick index' m g))
  -- and so of the public halves: evaluate of the code that compile leaves, then store into the target with the index code that compile_target leaves
  pub request_halves : (text code index : List ℕ) (tick : ℕ) {target m : List ℕ} {b : Bank} {e : Element} {n : ℕ} {v : Value} {c : ℕ} → Ready target m b e
      → Room code → Room index → compile_answer_of text code ≡ done_with n → evaluate_answer tick (compiled_code text code) n m ≡ Done v c X 0
      → let q = request target text m code index in
      (request_answer tick m q ≡ counted c (given_answer tick v (text_to_run target e) (compile_target_code index target) (count_to_run e) m))
      × (request_memory tick m q ≡ given_memory tick v (text_to_run target e) (compile_target_code index target) (count_to_run e) m)
  -- a value that a run gives is what its kind and pattern say
  pub reads_back : (v : Value) → Proper v → given_value (kind_word v) (bits_of v) ≡ v
  -- so on a memory of bytes evaluate, then store of the kind and pattern that it reports, is run
  pub evaluate_then_store : (code target index m : List ℕ) (n k tick : ℕ) {v : Value} {c : ℕ} → Bytes code → Bytes m
      → evaluate_answer tick code n m ≡ Done v c X 0
      → let w = given_value (kind_word v) (bits_of v) in
      (run_answer tick code n target index k m ≡ counted c (given_answer tick w target index k m))
      × (run_memory tick code n target index k m ≡ given_memory tick w target index k m)
