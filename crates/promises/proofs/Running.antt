-- What run gives for accepted code, and that compiling, then running, is compile-and-run.
use Rattle.std.specs.Prelude.{Some}
use mathlib.Core.Path.{◌≡◌, refl, sym, ap, ap₂, subst⁻¹, ◌∙◌}
use mathlib.Core.Bool.{true}
use mathlib.Core.List.{List}
use Prim.Native.Nat.{ℕ, ◌*◌}
use native.Mathlib.Omega.{arith}
use lib.ListN.{length, take}
use Rattle.memory.specs.declared.Bank.{Bank}
use Rattle.memory.specs.Environment.{memory_at}
use Rattle.memory.proofs.Runs.{run-written}
use Rattle.grammar.specs.Tree.{Tree}
use Rattle.text.specs.Judge.{accepted, judge_from}
use Rattle.text.specs.Targets.{Target, to_cell, to_indexed, no_target, index_text, target_of}
use Rattle.text.specs.Theorems.{AcceptedFormula}
use Rattle.code.specs.Instructions.{instructions}
use Rattle.machine.specs.Machine.{runs_at}
use Rattle.verifier.proofs.Safe.{safe}
use Rattle.verifier.proofs.Verdicts.{verdict-laws}
use Rattle.tree_code.specs.Code.{code_of}
use Rattle.compiler.specs.Compile.{coded_bytes, encode_all}
use Rattle.compiler.proofs.Bytes.{encoded-length}
use Rattle.compiler.proofs.Theorems as Compile
use Rattle.targets.specs.declared.Element.{Element}
use Rattle.targets.specs.declared.Element.TheVariants.{Is, By}
use Rattle.targets.specs.Found.{found_of, found_to_run, index_bytes}
use Rattle.targets.proofs.Theorems.{indexed, target-theorems}
use Rattle.operations.specs.Operations.{done_with, check_answer, to, goal, arrival, arrival_of, is_accepted, index_passes, finished, memory_after}
use Rattle.operations.specs.Operations.{ran_answer, ran_memory}
use Rattle.operations.specs.Operations.{compile_target_code, run_answer, run_memory, request_answer, request_memory}
use Rattle.operations.proofs.Verdicts.{accepted-by, aimed, Finishes}
use Rattle.operations.proofs.Requests.{kinded, run-code, arrives}
use Rattle.promises.specs.Terms.{compile_answer_of, compiled_code, Ready, ReadyToRun, Room, StoredOrFault}
use Rattle.promises.specs.Promises.{run, compile-and-run, result_of, Agree, text_to_run, count_to_run}
use Rattle.promises.proofs.Endings.{run_sound, gives}
use Rattle.promises.proofs.Texts.{is-formula, formula, written, index-code, the-tree}
use Rattle.promises.proofs.Codes.{faithful, faithful_index}
use Rattle.targets.proofs.Pairs.{first, second}

-- a formula's instructions stand at the front of the buffer, whatever it held
front : (d : ℕ) (text code : List ℕ) (t : Tree) → judge_from d text ≡ accepted t → Room code
    → take (8 * length (code_of t)) (coded_bytes code (accepted t)) ≡ encode_all (code_of t)
front d text code t q room =
    let size = encoded-length (code_of t) in
    rw (← size) (run-written code 0 (encode_all (code_of t)) (omega (arith, size, Compile.short d text t q)))

module _ {target m : List ℕ} {b : Bank} {e : Element} (k tick : ℕ) (ready : ReadyToRun k target m b e) (index : List ℕ)
    (passes : index_passes index e ≡ true) where
  -- accepted code is run, and its value goes to the target
  the-goal : (code : List ℕ) (n : ℕ) → check_answer code n ≡ done_with 0 → goal code n target index k m ≡ to b e
  the-goal code n c =
      let a = accepted-by code n c in
      aimed code n target index k m ready.memory ready.goal ((verdict-laws.exact (instructions code n) a.0).1 a.1) refl passes

  module _ (code : List ℕ) (n : ℕ) (c : check_answer code n ≡ done_with 0) where
    pub finishes : Finishes m (arrival tick index m b e) (runs_at tick code n m) (run_answer tick code n target index k m)
        (run_memory tick code n target index k m)
    finishes =
        let g = the-goal code n c in
        (ap (ran_answer tick index m (runs_at tick code n m)) g, ap (ran_memory tick index m (runs_at tick code n m)) g)

    pub runs_code : StoredOrFault m (runs_at tick code n m).count (arrival tick index m b e) (runs_at tick code n m).end
        (run_answer tick code n target index k m) (run_memory tick code n target index k m)
    runs_code =
        let a = accepted-by code n c in
        let w = safe.ends (memory_at tick m) (instructions code n) a.0 (kinded tick m) a.1 in
        let x = runs_at tick code n m in
        subst⁻¹ (λ g. StoredOrFault m x.count (arrival tick index m b e) x.end (ran_answer tick index m x g) (ran_memory tick index m x g))
        (the-goal code n c)
        (gives m ready.memory x.count (arrival tick index m b e) (run_sound k target tick index m e ready.goal passes) w)

-- ---- desk and box

module _ {target m : List ℕ} {b : Bank} {e : Element} (tick : ℕ) (ready : Ready target m b e) where
  -- what run is given names the same element
  given : (g : Target) → target_of target ≡ g → found_of g ≡ Some (b, e) → found_to_run (count_to_run e) (text_to_run target e) ≡ Some (b, e)
  given (to_cell c i) q f =
      let p : c ≡ b = first f in
      let r : Is i ≡ e = second f in
      rw (← r, ← p) (target-theorems.runs_to_cell 0 target c i q)
  given (to_indexed c t) q f =
      let p : c ≡ b = first f in
      let r : By (length (code_of t)) ≡ e = second f in
      rw (← r, ← p) (target-theorems.runs_to_bank (length (code_of t)) target c t q)
  given no_target q f = let z : ◌≡◌ {A = ℕ} 0 1 = cc in absurd (omega arith)

  -- the check accepts the index's code
  index-passes : (index : List ℕ) → Room index → (g : Target) → target_of target ≡ g → found_of g ≡ Some (b, e) → index_passes (index_bytes index g) e ≡ true
  index-passes index room (to_cell c i) q f = let r : Is i ≡ e = second f in rw (← r)
  index-passes index room (to_indexed c t) q f =
      let r : By (length (code_of t)) ≡ e = second f in
      let there = (Compile.compile-theorems-from 1).there (index_text target) index t (indexed target q).judged room in
      let good = ((Compile.compile-theorems-from 1).demand (index_text target) t (indexed target q).judged).accepted in
      rw (← r, there) (ap is_accepted ((verdict-laws.exact (code_of t) _).1 good))
  index-passes index room no_target q f = let z : ◌≡◌ {A = ℕ} 0 1 = cc in absurd (omega arith)

  -- the same instructions, whatever the buffers held
  same_index : (desk box : List ℕ) → Room desk → Room box → (g : Target) → target_of target ≡ g → found_of g ≡ Some (b, e)
      → take (8 * count_to_run e) (index_bytes desk g) ≡ take (8 * count_to_run e) (index_bytes box g)
  same_index desk box d x (to_cell c i) q f = let r : Is i ≡ e = second f in rw (← r)
  same_index desk box d x (to_indexed c t) q f =
      let r : By (length (code_of t)) ≡ e = second f in
      rw (← r) (front 1 (index_text target) desk t (indexed target q).judged d ∙ sym (front 1 (index_text target) box t (indexed target q).judged x))
  same_index desk box d x no_target q f = let z : ◌≡◌ {A = ℕ} 0 1 = cc in absurd (omega arith)

  -- and the same way to the element
  same-arrival : (desk box : List ℕ) → Room desk → Room box → (g : Target) → target_of target ≡ g → found_of g ≡ Some (b, e)
      → arrival_of tick (index_bytes desk g) m g ≡ arrival_of tick (index_bytes box g) m g
  same-arrival desk box d x (to_cell c i) q f = refl
  same-arrival desk box d x (to_indexed c t) q f =
      let same = run-code 1 (index_text target) t (indexed target q).judged tick m desk d
      ∙ sym (run-code 1 (index_text target) t (indexed target q).judged tick m box x) in
      ap (λ y. record { destination = (arrival_of tick (index_bytes box (to_indexed c t)) m (to_indexed c t)).destination; count = y.count }) same
  same-arrival desk box d x no_target q f = refl

  agree : {text : List ℕ} {t : Tree} (desk box desk-index box-index : List ℕ) {n : ℕ} → AcceptedFormula text t → Room box → Room desk-index → Room box-index
      → compile_answer_of text desk ≡ done_with n
      → Agree n (count_to_run e) (result_of (run n (count_to_run e) tick) (text_to_run target e) m (compiled_code text desk) (compile_target_code desk-index target))
      (result_of (compile-and-run text tick) target m box box-index)
  agree {text} {t} desk box di bi {n} a room rd rb c =
      let q = is-formula a in
      let w = written text desk q c in
      let kept = faithful desk a c in
      let g = target_of target in
      let here : ReadyToRun (count_to_run e) (text_to_run target e) m b e = record { memory = ready.memory; goal = given g refl ready.goal } in
      let f = finishes (count_to_run e) tick here (index_bytes di g) (index-passes di rd g refl ready.goal) (compiled_code text desk) n kept.accepted in
      let there = the-tree tick ready box bi room rb a in
      let same : runs_at tick (compiled_code text desk) n m ≡ runs_at tick (coded_bytes box (accepted t)) (length (code_of t)) m =
      rw (w.bytes, ← w.count) (run-code 0 text t q tick m desk w.room ∙ sym (run-code 0 text t q tick m box room)) in
      let way : arrival tick (index_bytes di g) m b e ≡ arrival_of tick (index_bytes bi g) m g =
      arrives target tick m di g refl rd ready.goal ∙ same-arrival di bi rd rb g refl ready.goal in
      rw (index-code target di rd) record {
        answer = f.0 ∙ ap (λ x. finished m x (runs_at tick (compiled_code text desk) n m).end (runs_at tick (compiled_code text desk) n m).count) way
            ∙ ap₂ (finished m (arrival_of tick (index_bytes bi g) m g)) (kept.same tick m) (ap (λ x. x.count) same) ∙ ap (request_answer tick m) (sym there);
        memory = f.1 ∙ ap (λ x. memory_after m x (runs_at tick (compiled_code text desk) n m).end) way
            ∙ ap (memory_after m (arrival_of tick (index_bytes bi g) m g)) (kept.same tick m) ∙ ap (request_memory tick m) (sym there);
        code = rw (there, w.bytes, ← w.count) (front 0 text desk t q w.room ∙ sym (front 0 text box t q room));
        index = rw there (same_index di bi rd rb g refl ready.goal);
      }

  pub desk_and_box : (text desk box desk-index box-index : List ℕ) {n : ℕ} → Room box → Room desk-index → Room box-index
      → compile_answer_of text desk ≡ done_with n
      → Agree n (count_to_run e) (result_of (run n (count_to_run e) tick) (text_to_run target e) m (compiled_code text desk) (compile_target_code desk-index target))
      (result_of (compile-and-run text tick) target m box box-index)
  desk_and_box text desk box di bi room rd rb c = agree desk box di bi (formula text desk c).1 room rd rb c
