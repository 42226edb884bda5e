-- The words that the promises use.
use Rattle.std.specs.Prelude.{◌≡◌, true, false, ◌⊎◌, List, ℕ, ◌+◌, ◌≤◌, ◌<◌, T, length, get_or, set, Option, Some, Ok, Err}
use Rattle.values.specs.declared.Kind.{Kind}
use Rattle.values.specs.declared.Value.{Value}
use Rattle.values.specs.declared.Fault.{Fault as FaultName}
use Rattle.values.specs.declared.Fault.TheVariants.{OutOfRange}
use Rattle.operators.specs.Laws.{Proper}
use Rattle.memory.specs.declared.Bank.{Bank}
use Rattle.memory.specs.Layout.{image_size, layout_of, flag_at, packed, has_cell}
use Rattle.memory.specs.Laws.{Distinct}
use Rattle.memory.specs.Names.{target_rule}
use Rattle.memory.specs.Store.{is_finite, encode_cell, with_flag, store_image}
use Rattle.memory.specs.Environment.{memory_at}
use Rattle.text.specs.Targets.{Target, target_of}
use Rattle.code.specs.Instructions.{instructions}
use Rattle.machine.specs.declared.Ended.{Ended}
use Rattle.machine.specs.declared.Ended.TheVariants as Ended
use Rattle.machine.specs.Machine.{runs_at}
use Rattle.verifier.specs.Stack.{StackSafe}
use Rattle.verifier.specs.Safety.{EndsWell}
use Rattle.compiler.specs.Compile.{compiling, coded_bytes}
use Rattle.targets.specs.declared.Element.{Element}
use Rattle.targets.specs.declared.Element.TheVariants.{Is, By}
use Rattle.targets.specs.Found.{found_of, found_to_run}
use Rattle.delivery.specs.declared.Answer.{Answer}
use Rattle.delivery.specs.declared.Answer.TheVariants.{Done, Fault, Refused}
use Rattle.operations.specs.Operations.{report_of, compile_answer, stored_answer, Destination, cell, fault, Arrival}

-- compile's answer, and what it leaves in the buffer
abbrev pub compile_answer_of : List ℕ → List ℕ → Answer
compile_answer_of text code = compile_answer (compiling (length code) text)

abbrev pub compiled_code : List ℕ → List ℕ → List ℕ
compiled_code text code = coded_bytes code (compiling (length code) text)

-- the answer's number in paper 01's list
abbrev pub answer_number : Answer → ℕ
answer_number r = (report_of r).answer

-- "1 to 10 and 15 change nothing"
abbrev pub Refusal : ℕ → Type 0
Refusal a = (1 ≤ a) × ((a ≤ 10) ⊎ (a ≡ 15))

-- neither 1 nor 2 holds of compile-and-run: the target is the element e of the bank b
pub record Ready (target m : List ℕ) (b : Bank) (e : Element) : Type 0 where
  pub memory : length m ≡ image_size
  pub goal : found_of (target_of target) ≡ Some (b, e)

-- the same of run, which is given k instructions for an index
pub record ReadyToRun (k : ℕ) (target m : List ℕ) (b : Bank) (e : Element) : Type 0 where
  pub memory : length m ≡ image_size
  pub goal : found_to_run k target ≡ Some (b, e)

-- and the target is a plain cell, as paper 01 has it
pub record Plain (target m : List ℕ) (b : Bank) (i : ℕ) : Type 0 where
  pub memory : length m ≡ image_size
  pub cell : target_rule target ≡ Some (b, i)

-- 10 does not hold
abbrev pub Room : List ℕ → Type 0
Room code = 16384 ≤ length code

-- the cell that an answer names is the target's own, or one of the bank whose element the index gives
pub data Names : Option (Bank × Element) → Bank → ℕ → Type 0 where
  own_cell : {b : Bank} {i : ℕ} → Names (Some (b, Is i)) b i
  of-bank : {b : Bank} {i k : ℕ} → Names (Some (b, By k)) b i

-- every cell but one holds the number that it held, and every flag's byte is what it was. Cells and flags are all of a memory: `Promises.covered`
pub record SameBut (b : Bank) (i : ℕ) (m m' : List ℕ) : Type 0 where
  pub cells : (c : Bank) (j : ℕ) → j < (layout_of c).elements → Distinct b i c j → packed.get m' c j ≡ packed.get m c j
  pub flags : (f : FaultName) → get_or m' (flag_at f) 0 ≡ get_or m (flag_at f) 0

-- what a run's end makes of the memory m, and its answer, with the count n, where the value arrives at a: the value is in the cell; or it does not fit
-- there, or it is infinite or NaN, or its index or the run met a fault, and that flag is set
pub data StoredOrFault (m : List ℕ) (n : ℕ) (a : Arrival) : Ended → Answer → List ℕ → Type 0 where
  stored : {v : Value} {b : Bank} {i p : ℕ} → a.destination ≡ cell b i → T (has_cell m b i) → encode_cell b v ≡ Ok p
      → StoredOrFault m n a (Ended.Done v) (Done v (n + a.count) b i) (packed.put m b i p)
  unstored : {v : Value} {b : Bank} {i : ℕ} {f : FaultName} → is_finite v ≡ true → a.destination ≡ cell b i → encode_cell b v ≡ Err f
      → StoredOrFault m n a (Ended.Done v) (Fault f (n + a.count)) (set m (flag_at f) 1)
  no_element : {v : Value} {f : FaultName} → is_finite v ≡ true → a.destination ≡ fault f
      → StoredOrFault m n a (Ended.Done v) (Fault f (n + a.count)) (set m (flag_at f) 1)
  infinite : {v : Value} → is_finite v ≡ false → StoredOrFault m n a (Ended.Done v) (Fault OutOfRange n) (set m (flag_at OutOfRange) 1)
  stopped : {f : FaultName} → StoredOrFault m n a (Ended.Stopped f) (Fault f n) (set m (flag_at f) 1)

-- paper 01's end of a run whose target is a plain cell: a value is stored, a fault sets its flag
abbrev pub plain_answer : List ℕ → Bank → ℕ → Ended → ℕ → Answer
plain_answer m b i (Ended.Done v) n = stored_answer m b i v n
plain_answer m b i (Ended.Stopped f) n = Fault f n
plain_answer m b i Ended.Stuck n = Refused 15 0

abbrev pub plain_memory : List ℕ → Bank → ℕ → Ended → List ℕ
plain_memory m b i (Ended.Done v) = store_image m b i v
plain_memory m b i (Ended.Stopped f) = with_flag m f
plain_memory m b i Ended.Stuck = m

-- a value that is given is an integer of 32 bits or a finite single
abbrev pub Finite : Ended → Type 0
Finite e = (v : Value) → e ≡ Ended.Done v → Proper v

-- n instructions of the code, whatever the memory holds and whatever the tick: they end with a value of the kind k or a fault; the count, one for each
-- instruction begun and each cell that a total visited, is at most so much; and no moment is short of a value or holds more than 128
pub record Ends (code : List ℕ) (n most : ℕ) (k : Kind) : Type 0 where
  pub well : (tick : ℕ) (m : List ℕ) → EndsWell k (runs_at tick code n m).end
  pub quick : (tick : ℕ) (m : List ℕ) → (runs_at tick code n m).count ≤ most
  pub stack : (tick : ℕ) (m : List ℕ) → StackSafe (memory_at tick m) (instructions code n) k
