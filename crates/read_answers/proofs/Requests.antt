-- Compile and run: the buffers hold the code of the formula and of the index, which read just their cells.
use mathlib.Core.Path.{◌≡◌, refl, sym, ap, ◌∙◌, subst}
use mathlib.Core.Bool.{Bool, true, false, cond}
use mathlib.Core.List.{List, []}
use Prim.Native.Nat.{ℕ, ◌≤◌}
use lib.Dec.{ltb}
use lib.ListN.{length}
use borrow.Author.Tests.{eq-eqb, ltb-false}
use Rattle.values.specs.declared.Outcome.{Outcome}
use Rattle.memory.specs.declared.Bank.{Bank}
use Rattle.memory.specs.Layout.{image_size, packed}
use Rattle.memory.specs.Environment.{memory_at}
use Rattle.grammar.specs.Tree.{Tree}
use Rattle.grammar.specs.Eval.{eval}
use Rattle.text.specs.Judge.{Judgement, accepted, refused, judge}
use Rattle.text.specs.Targets.{Target, to_cell, to_indexed, no_target, target_of, index_text}
use Rattle.code.specs.declared.Instr.{Instr}
use Rattle.code.specs.Instructions.{instructions}
use Rattle.machine.specs.declared.Ran.{Ran}
use Rattle.machine.specs.Machine.{exec, runs_at, end_of}
use Rattle.tree_code.specs.Code.{code_of}
use Rattle.read_laws.specs.Formulas.{tree_cells, target_cells}
use Rattle.read_laws.specs.Theorems.{AlikeOn, AgreeOn}
use Rattle.read_laws.proofs.Environments.{first, second}
use Rattle.read_laws.proofs.Laws.{read-theorems}
use Rattle.compiler.specs.Compile.{coded_bytes}
use Rattle.compiler.proofs.Theorems.{compile-theorems-from}
use Rattle.targets.specs.Found.{index_bytes}
use Rattle.targets.proofs.Theorems.{indexed}
use Rattle.operations.specs.Operations.{Destination, destination_of, index_begun, arrival_of, finished, Request, stores, stops, of_text, of_target}
use Rattle.operations.specs.Operations.{request, request_answer}
use Rattle.read_answers.specs.Answers.{request_cells}
use Rattle.read_answers.proofs.Runs.{element, finished-same}

-- a target's index is in its buffer
data IndexThere (index : List ℕ) : Target → Type 0 where
  plain : (b : Bank) (i : ℕ) → IndexThere index (to_cell b i)
  coded : (b : Bank) (u : Tree) → instructions index (length (code_of u)) ≡ code_of u → IndexThere index (to_indexed b u)

module _ (tick : ℕ) (m m' : List ℕ) where
  begun-same : (c : List ℕ) (t : Tree) → instructions c (length (code_of t)) ≡ code_of t → AlikeOn (tree_cells t) (memory_at tick m) (memory_at tick m')
      → (runs_at tick c (length (code_of t)) m).count ≡ (runs_at tick c (length (code_of t)) m').count
  begun-same c t q a =
      let E = memory_at tick m in
      let F = memory_at tick m' in
      ap (λ (l : List Instr). (exec E l 0 []).count) q
      ∙ ap (λ (x : Ran). x.count) (read-theorems.formula-run E F t a)
      ∙ sym (ap (λ (l : List Instr). (exec F l 0 []).count) q)

  index_same : {index : List ℕ} {g : Target} → IndexThere index g → AlikeOn (target_cells g) (memory_at tick m) (memory_at tick m')
      → index_begun tick index m g ≡ index_begun tick index m' g
  index_same (plain b i) a = refl
  index_same {index} (coded b u q) a = begun-same index u q a

  stores_same : (g : Target) (t : Tree) (code index : List ℕ) → instructions code (length (code_of t)) ≡ code_of t → IndexThere index g
      → AgreeOn packed (request_cells (stores g t code index)) m m'
      → request_answer tick m (stores g t code index) ≡ request_answer tick m' (stores g t code index)
  stores_same g t code index q there a =
      let both = read-theorems.memories packed tick (request_cells (stores g t code index)) m m' a in
      let its = first (tree_cells t) (target_cells g) both in
      let goes = second (tree_cells t) (target_cells g) both in
      let E = memory_at tick m in
      let F = memory_at tick m' in
      let n = (runs_at tick code (length (code_of t)) m).count in
      ap (λ (d : Destination). finished m (record { destination = d; count = index_begun tick index m g }) (end_of (eval E t)) n) (element E F g goes)
      ∙ ap (λ (k : ℕ). finished m (record { destination = destination_of F g; count = k }) (end_of (eval E t)) n) (index_same there goes)
      ∙ ap (λ (o : Outcome). finished m (arrival_of tick index m' g) (end_of o) n) (read-theorems.value E F t its)
      ∙ ap (λ (k : ℕ). finished m (arrival_of tick index m' g) (end_of (eval F t)) k) (begun-same code t q its)
      ∙ finished-same m m' a.size a.size' (arrival_of tick index m' g) (end_of (eval F t)) (runs_at tick code (length (code_of t)) m').count

  module _ (target text code index : List ℕ) where
    on-text : (g : Target) → 16384 ≤ length code → IndexThere (index_bytes index g) g → (j : Judgement) → judge text ≡ j
        → AgreeOn packed (request_cells (of_text code index g j)) m m'
        → request_answer tick m (of_text code index g j) ≡ request_answer tick m' (of_text code index g j)
    on-text g room there (accepted t) e a =
        stores_same g t (coded_bytes code (accepted t)) (index_bytes index g) ((compile-theorems-from 0).there text code t e room) there a
    on-text g room there (refused x p) e a = refl

    on-target : (g : Target) → target_of target ≡ g → 16384 ≤ length code → 16384 ≤ length index
        → AgreeOn packed (request_cells (of_target text code index g)) m m'
        → request_answer tick m (of_target text code index g) ≡ request_answer tick m' (of_target text code index g)
    on-target (to_cell b i) e room more a = on-text (to_cell b i) room (plain b i) (judge text) refl a
    on-target (to_indexed b u) e room more a =
        on-text (to_indexed b u) room (coded b u ((compile-theorems-from 1).there (index_text target) index u (indexed target e).judged more)) (judge text) refl a
    on-target no_target e room more a = refl

    -- with room in both buffers, or 10
    on_room : (t u : Bool) → ltb (length code) 16384 ≡ t → ltb (length index) 16384 ≡ u
        → AgreeOn packed (request_cells (cond t (stops 10 0) (cond u (stops 10 0) (of_target text code index (target_of target))))) m m'
        → request_answer tick m (cond t (stops 10 0) (cond u (stops 10 0) (of_target text code index (target_of target))))
        ≡ request_answer tick m' (cond t (stops 10 0) (cond u (stops 10 0) (of_target text code index (target_of target))))
    on_room true u e f a = refl
    on_room false true e f a = refl
    on_room false false e f a =
        on-target (target_of target) refl (ltb-false (length code) 16384 e) (ltb-false (length index) 16384 f) a

    asked_is : (k : List ℕ) → length k ≡ image_size → request target text k code index
        ≡ cond (ltb (length code) 16384) (stops 10 0) (cond (ltb (length index) 16384) (stops 10 0) (of_target text code index (target_of target)))
    asked_is k h = rw (eq-eqb (length k) image_size h)

pub answer : (tick : ℕ) (target text code index m m' : List ℕ) → AgreeOn packed (request_cells (request target text m code index)) m m'
    → request_answer tick m (request target text m code index) ≡ request_answer tick m' (request target text m' code index)
answer tick target text code index m m' a =
    ap (request_answer tick m) (asked_is tick m m' target text code index m a.size)
    ∙ on_room tick m m' target text code index (ltb (length code) 16384) (ltb (length index) 16384) refl refl
    (subst (λ (q : Request). AgreeOn packed (request_cells q) m m') (asked_is tick m m' target text code index m a.size) a)
    ∙ sym (ap (request_answer tick m') (asked_is tick m m' target text code index m' a.size'))
