-- Which cells an operation reads (paper 02, Ask 11), and that nothing else matters to its answer: "two memories of the right size that agree on the listed
-- cells give the same value, answer and count, whatever the rest holds. For a stored run the target's own index counts as read." proofs/Laws.antt proves the
-- record.
use Rattle.std.specs.Prelude.{◌≡◌, List, ℕ, pos, length, Option, Some, None}
use Rattle.values.specs.declared.Value.{Value}
use Rattle.values.specs.declared.Value.TheVariants.{Int}
use Rattle.memory.specs.declared.Bank.{Bank}
use Rattle.memory.specs.Layout.{image_size, packed}
use Rattle.memory.specs.Environment.{Environment}
use Rattle.grammar.specs.Tree.{Tree}
use Rattle.text.specs.Judge.{accepted, judge}
use Rattle.text.specs.Targets.{Target, target_of}
use Rattle.code.specs.Instructions.{instructions}
use Rattle.read_set.specs.Cells.{Cells, nothing, union, code_cells, cell_list, read_by}
use Rattle.read_laws.specs.Formulas.{tree_cells, target_cells}
use Rattle.read_laws.specs.Theorems.{AlikeOn, AgreeOn, AgreeOnListed}
use Rattle.compiler.specs.Compile.{compiling, coded_bytes}
use Rattle.targets.specs.declared.Element.{Element}
use Rattle.targets.specs.declared.Element.TheVariants.{Is, By}
use Rattle.targets.specs.Found.{found_to_run}
use Rattle.delivery.specs.declared.Answer.TheVariants.{Done}
use Rattle.operations.specs.Operations.{done_with, compile_answer, compile_target_answer, compile_target_code, destination_of, run_answer, evaluate_answer, given_answer}
use Rattle.operations.specs.Operations.{Request, stores, stops, request, request_answer}

-- of a run: those of the code, and of the index code where the target is a bank
abbrev pub element_cells : List ℕ → Element → Cells
element_cells index (Is i) = nothing
element_cells index (By k) = code_cells (instructions index k)

abbrev pub found_cells : List ℕ → Option (Bank × Element) → Cells
found_cells index (Some (b, e)) = element_cells index e
found_cells index None = nothing

abbrev pub run_cells : List ℕ → ℕ → List ℕ → List ℕ → ℕ → Cells
run_cells code n target index k = union (code_cells (instructions code n)) (found_cells index (found_to_run k target))

-- of compile and run: the formula's and the target's; a refused request reads nothing
abbrev pub request_cells : Request → Cells
request_cells (stores g t code index) = union (tree_cells t) (target_cells g)
request_cells (stops a p) = nothing

pub record AnswerTheorems : Type 0 where
  -- where a value goes
  pub element : (E F : Environment) (g : Target) → AlikeOn (target_cells g) E F → destination_of E g ≡ destination_of F g
  -- run: value, fault, count, and the cell stored to
  pub ran : (tick : ℕ) (code : List ℕ) (n : ℕ) (target index : List ℕ) (k : ℕ) (m m' : List ℕ) → AgreeOn packed (run_cells code n target index k) m m'
      → run_answer tick code n target index k m ≡ run_answer tick code n target index k m'
  -- its two halves: evaluate reads the code's cells, store the index code's
  pub evaluated : (tick : ℕ) (code : List ℕ) (n : ℕ) (m m' : List ℕ) → AgreeOn packed (code_cells (instructions code n)) m m'
      → evaluate_answer tick code n m ≡ evaluate_answer tick code n m'
  pub given : (tick : ℕ) (v : Value) (target index : List ℕ) (k : ℕ) (m m' : List ℕ) → AgreeOn packed (found_cells index (found_to_run k target)) m m'
      → given_answer tick v target index k m ≡ given_answer tick v target index k m'
  -- compile and run: value, fault, count, and the cell stored to
  pub answer : (tick : ℕ) (target text code index m m' : List ℕ) → AgreeOn packed (request_cells (request target text m code index)) m m'
      → request_answer tick m (request target text m code index) ≡ request_answer tick m' (request target text m' code index)
  -- what it is asked for does not depend on what a memory of the right size holds
  pub asked : (target text m m' code index : List ℕ) → length m ≡ image_size → length m' ≡ image_size
      → request target text m code index ≡ request target text m' code index
  -- with the list itself, of the code and of the index code beside it: "two memories of the right size that agree on the listed cells give the same value,
  -- answer and count"
  pub ran_listed : (tick : ℕ) (code : List ℕ) (n : ℕ) (target index : List ℕ) (k : ℕ) (m m' : List ℕ) → AgreeOnListed packed (read_by code n index k) m m'
      → run_answer tick code n target index k m ≡ run_answer tick code n target index k m'
  pub evaluated_listed : (tick : ℕ) (code : List ℕ) (n : ℕ) (index : List ℕ) (k : ℕ) (m m' : List ℕ) → AgreeOnListed packed (read_by code n index k) m m'
      → evaluate_answer tick code n m ≡ evaluate_answer tick code n m'
  pub answer_listed : (tick : ℕ) (target text code index m m' : List ℕ)
      → AgreeOnListed packed (cell_list (request_cells (request target text m code index))) m m'
      → request_answer tick m (request target text m code index) ≡ request_answer tick m' (request target text m' code index)
  -- "Keep a list of cells beside each formula": of the bytes that compile and compile_target left, in the numbers that they answered, the list is the formula's
  pub of_formula : (text target code index : List ℕ) (t : Tree) (n k : ℕ) (b : Bank) (i : ℕ) → judge text ≡ accepted t
      → compile_answer (compiling (length code) text) ≡ done_with n → compile_target_answer index target ≡ Done (Int (pos 0)) k b i
      → read_by (coded_bytes code (compiling (length code) text)) n (compile_target_code index target) k
      ≡ cell_list (union (tree_cells t) (target_cells (target_of target)))
