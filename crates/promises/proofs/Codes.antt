-- Demand 3, and what compiling writes: compiled code in its buffer, and any code that the check accepts.
use mathlib.Core.Path.{◌≡◌, refl, sym, ap, subst}
use mathlib.Core.Bool.{Bool, true, false, cond}
use mathlib.Core.Logic.{inr}
use mathlib.Core.List.{List}
use Prim.Native.Nat.{ℕ, ◌+◌, ◌*◌, ◌≤◌}
use native.Mathlib.Omega.{arith}
use lib.Dec.{ltb}
use lib.ListN.{length, get_or}
use borrow.Author.Tests.{le-ltb}
use Rattle.values.specs.declared.Kind.{Kind}
use Rattle.memory.specs.declared.Bank.{Bank}
use Rattle.memory.specs.Environment.{memory_at}
use Rattle.memory.proofs.Runs.{other-kept}
use Rattle.grammar.specs.Tree.{Tree, tree_kind}
use Rattle.text.specs.Judge.{Judgement, accepted, refused, judge_from}
use Rattle.text.specs.Targets.{Target, to_cell, to_indexed, no_target, index_text, target_of}
use Rattle.text.specs.Theorems.{AcceptedFormula}
use Rattle.code.specs.Instructions.{instructions}
use Rattle.machine.specs.Machine.{max_cells, ranges_of, runs_at}
use Rattle.verifier.specs.Accepts as Verifier
use Rattle.verifier.proofs.Safe.{safe}
use Rattle.tree_code.specs.Code.{code_of}
use Rattle.compiler.specs.Compile.{compiling, coded_bytes, encode_all}
use Rattle.compiler.proofs.Bytes.{encoded-length}
use Rattle.compiler.proofs.Theorems.{compile-theorems-from}
use Rattle.targets.specs.Found.{index_bytes}
use Rattle.targets.proofs.Theorems.{indexed}
use Rattle.delivery.specs.declared.Answer.{Answer}
use Rattle.delivery.specs.declared.Answer.TheVariants.{Refused}
use Rattle.operations.specs.Operations.{report_of, done_with, compile_answer, check_answer, target_answer, compile_target_answer, compile_target_code}
use Rattle.operations.proofs.Verdicts.{accepted-by, passes}
use Rattle.operations.proofs.Requests.{kinded, run-code, run-tree}
use Rattle.promises.specs.Terms.{compile_answer_of, compiled_code, Ends}
use Rattle.promises.specs.Promises.{Faithful}
use Rattle.promises.proofs.Texts.{is-formula, written}

-- ---- what compiling writes

beyond-code : (code : List ℕ) (t : Tree) (k : ℕ) → 8 * length (code_of t) ≤ k → get_or (coded_bytes code (accepted t)) k 0 ≡ get_or code k 0
beyond-code code t k h = other-kept code 0 (encode_all (code_of t)) k (inr (omega (arith, encoded-length (code_of t))))

beyond : (code : List ℕ) (n k : ℕ) (j : Judgement) → compile_answer j ≡ done_with n → 8 * n ≤ k → get_or (coded_bytes code j) k 0 ≡ get_or code k 0
beyond code n k (accepted t) e h = let l : length (code_of t) ≡ n = cc in beyond-code code t k (omega arith)
beyond code n k (refused a p) e h = refl

pub only_code : (text code : List ℕ) (n k : ℕ) → compile_answer_of text code ≡ done_with n → 8 * n ≤ k → get_or (compiled_code text code) k 0 ≡ get_or code k 0
only_code text code n k = beyond code n k (compiling (length code) text)

pub only_index : (target index : List ℕ) (k : ℕ) → 8 * (report_of (compile_target_answer index target)).count ≤ k
    → get_or (compile_target_code index target) k 0 ≡ get_or index k 0
only_index target index k = by (ltb (length index) 16384) (target_of target)
  where
    by : (t : Bool) (g : Target) → 8 * (report_of (cond t (Refused 10 0) (target_answer g))).count ≤ k
        → get_or (cond t index (index_bytes index g)) k 0 ≡ get_or index k 0
    by true g h = refl
    by false (to_cell b i) h = refl
    by false (to_indexed b t) h = beyond-code index t k h
    by false no_target h = refl

-- ---- accepted code

module _ (code : List ℕ) (n : ℕ) where
  well : {k : Kind} → Verifier.Accepts (instructions code n) k → (most : ℕ) → ((tick : ℕ) (m : List ℕ) → (runs_at tick code n m).count ≤ most)
      → Ends code n most k
  well {k} a most h = record {
    well = λ tick m. safe.ends (memory_at tick m) (instructions code n) k (kinded tick m) a;
    quick = h;
    stack = λ tick m. safe.stack (memory_at tick m) (instructions code n) k (kinded tick m) a;
  }

  pub ends : check_answer code n ≡ done_with 0 → (k : Kind) × Ends code n (n + max_cells * ranges_of (instructions code n)) k
  ends e =
      let a = accepted-by code n e in
      (a.0, well a.1 _ (λ tick m. safe.counts_code (memory_at tick m) code n))

-- ---- compiled code, of a text behind d open brackets

in_buffer : (d : ℕ) (text : List ℕ) (t : Tree) → judge_from d text ≡ accepted t → (code : List ℕ) → 16384 ≤ length code
    → Faithful text t (coded_bytes code (accepted t)) (length (code_of t))
in_buffer d text t q code room =
    let there = (compile-theorems-from d).there text code t q room in
    let demand = (compile-theorems-from d).demand text t q in
    let good = subst (λ c. Verifier.Accepts c (tree_kind t)) (sym there) demand.accepted in
    record {
      same = λ tick m. run-tree d text t q tick m code room;
      accepted = passes _ _ good;
      ends = well _ _ good _ (λ tick m. rw (run-code d text t q tick m code room) (demand.quick (memory_at tick m)));
      short = demand.short;
    }

pub faithful : {text : List ℕ} {t : Tree} (code : List ℕ) → AcceptedFormula text t → {n : ℕ} → compile_answer_of text code ≡ done_with n
    → Faithful text t (compiled_code text code) n
faithful {text} {t} code a {n} e =
    let w = written text code (is-formula a) e in
    subst (λ n. Faithful text t (compiled_code text code) n) w.count (rw w.bytes (in_buffer 0 text t (is-formula a) code w.room))

pub faithful_index : (target index : List ℕ) (b : Bank) (t : Tree) → target_of target ≡ to_indexed b t → 16384 ≤ length index
    → Faithful (index_text target) t (compile_target_code index target) (report_of (compile_target_answer index target)).count
faithful_index target index b t q room = rw (le-ltb (length index) 16384 room, q) (in_buffer 1 (index_text target) t (indexed target q).judged index room)
