-- A plain cell is stored to as paper 01 says: no index is worked out, and a value that is infinite or NaN is 13 at the store too.
use mathlib.Core.Path.{◌≡◌, refl, ap, ◌∙◌}
use mathlib.Core.Bool.{Bool, true, false, cond}
use mathlib.Core.List.{List}
use Prim.Native.Nat.{ℕ, ◌+◌, ◌<◌}
use native.Mathlib.Nat.{add-zero}
use lib.ListN.{length}
use Rattle.values.specs.declared.Value.{Value}
use Rattle.values.specs.declared.Fault.TheVariants.{OutOfRange}
use Rattle.memory.specs.declared.Bank.{Bank}
use Rattle.memory.specs.Layout.{image_size, layout_of}
use Rattle.memory.specs.Store.{is_finite, with_flag, store_image}
use Rattle.memory.specs.Environment.{memory_at}
use Rattle.grammar.specs.Tree.{Tree}
use Rattle.grammar.specs.Eval.{eval}
use Rattle.text.specs.Judge.{accepted}
use Rattle.text.specs.Targets.{to_cell, target_of}
use Rattle.text.specs.Theorems.{AcceptedFormula}
use Rattle.machine.specs.declared.Ended.{Ended}
use Rattle.machine.specs.declared.Ended.TheVariants as Ended
use Rattle.machine.specs.Machine.{runs_at, end_of}
use Rattle.targets.specs.declared.Element.TheVariants.{Is}
use Rattle.targets.specs.Found.{found_of}
use Rattle.targets.proofs.Theorems.{from-plain, target-theorems}
use Rattle.delivery.specs.declared.Answer.TheVariants.{Fault}
use Rattle.operations.specs.Operations.{done_with, check_answer, cell, Arrival, stored_answer, finished, memory_after, of_text, request, request_answer}
use Rattle.operations.specs.Operations.{request_memory, request_index}
use Rattle.operations.specs.Operations.{run_answer, run_memory}
use Rattle.promises.specs.Terms.{compile_answer_of, compiled_code, Ready, ReadyToRun, Plain, Room, plain_answer, plain_memory}
use Rattle.promises.proofs.Endings.{there}
use Rattle.promises.proofs.Texts.{is-formula, written, the-tree}
use Rattle.promises.proofs.Running.{finishes}

abbrev straight : Bank → ℕ → Arrival
straight b i = record { destination = cell b i; count = 0 }

module _ (m : List ℕ) (b : Bank) (i : ℕ) (size : length m ≡ image_size) (inside : i < (layout_of b).elements) where
  value-answer : (v : Value) (n : ℕ) (t : Bool) → is_finite v ≡ t → cond t (stored_answer m b i v (n + 0)) (Fault OutOfRange n) ≡ stored_answer m b i v n
  value-answer v n true h = rw (add-zero n)
  value-answer v n false h = rw (there m size b i inside, h)

  value-memory : (v : Value) (t : Bool) → is_finite v ≡ t → cond t (store_image m b i v) (with_flag m OutOfRange) ≡ store_image m b i v
  value-memory v true h = refl
  value-memory v false h = rw (there m size b i inside, h)

  plain-answer : (e : Ended) (n : ℕ) → finished m (straight b i) e n ≡ plain_answer m b i e n
  plain-answer (Ended.Done v) n = value-answer v n (is_finite v) refl
  plain-answer (Ended.Stopped f) n = refl
  plain-answer Ended.Stuck n = refl

  plain-memory : (e : Ended) → memory_after m (straight b i) e ≡ plain_memory m b i e
  plain-memory (Ended.Done v) = value-memory v (is_finite v) refl
  plain-memory (Ended.Stopped f) = refl
  plain-memory Ended.Stuck = refl

module _ {target m : List ℕ} {b : Bank} {i : ℕ} (plain : Plain target m b i) where
  goal : target_of target ≡ to_cell b i
  goal = from-plain target plain.cell

  inside : i < (layout_of b).elements
  inside = target-theorems.cell-inside target b i goal

  pub plain_run : (code index : List ℕ) (n k tick : ℕ) → check_answer code n ≡ done_with 0
      → (run_answer tick code n target index k m ≡ plain_answer m b i (runs_at tick code n m).end (runs_at tick code n m).count)
      × (run_memory tick code n target index k m ≡ plain_memory m b i (runs_at tick code n m).end)
  plain_run code index n k tick c =
      let ready : ReadyToRun k target m b (Is i) = record { memory = plain.memory; goal = target-theorems.runs_to_cell k target b i goal } in
      let f = finishes k tick ready index refl code n c in
      let x = runs_at tick code n m in
      (f.0 ∙ plain-answer m b i plain.memory inside x.end x.count, f.1 ∙ plain-memory m b i plain.memory inside x.end)

  pub plain_request : {text : List ℕ} {t : Tree} {n : ℕ} (code index : List ℕ) (tick : ℕ) → Room index → AcceptedFormula text t
      → compile_answer_of text code ≡ done_with n
      → let e = end_of (eval (memory_at tick m) t) in
      (request_answer tick m (request target text m code index) ≡ plain_answer m b i e (runs_at tick (compiled_code text code) n m).count)
      × ((request_memory tick m (request target text m code index) ≡ plain_memory m b i e) × (request_index index (request target text m code index) ≡ index))
  plain_request {text} {t} {n} code index tick more a c =
      let ready : Ready target m b (Is i) = record { memory = plain.memory; goal = ap found_of goal } in
      let w = written text code (is-formula a) c in
      let there : request target text m code index ≡ of_text code index (to_cell b i) (accepted t) =
      the-tree tick ready code index w.room more a ∙ ap (λ g. of_text code index g (accepted t)) goal in
      let e = end_of (eval (memory_at tick m) t) in
      rw (there, w.bytes, ← w.count) (plain-answer m b i plain.memory inside e _, (plain-memory m b i plain.memory inside e, refl))
