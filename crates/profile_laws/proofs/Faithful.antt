-- Demand 3 in the profile: what it says in the full box, of code that the machine without reals runs alike.
use mathlib.Core.Path.{◌≡◌, sym, ap, ◌∙◌, subst}
use mathlib.Core.Bool.{Bool, true, false, cond}
use mathlib.Core.List.{List}
use Prim.Native.Nat.{ℕ, ◌+◌, ◌*◌}
use native.Mathlib.Omega.{arith}
use lib.Dec.{ltb}
use lib.IntN.{pos}
use lib.ListN.{length}
use borrow.Author.Tests.{le-ltb}
use Rattle.values.specs.declared.Kind.{Kind}
use Rattle.values.specs.declared.Kind.TheVariants as K
use Rattle.values.specs.declared.Value.TheVariants.{Int}
use Rattle.operators.specs.Laws.{OfKind}
use Rattle.memory.specs.declared.Bank.{Bank}
use Rattle.memory.specs.Environment.{memory_at}
use Rattle.grammar.specs.Tree.{Tree, tree_kind}
use Rattle.grammar.specs.Eval.{eval}
use Rattle.text.specs.Judge.{Judgement, accepted, refused, judge}
use Rattle.text.specs.Targets.{Target, to_indexed, index_text}
use Rattle.text.proofs.Theorems.{text-theorems}
use Rattle.code.specs.declared.Instr.{Instr}
use Rattle.code.specs.Instructions.{instructions}
use Rattle.machine.specs.declared.Ran.{Ran}
use Rattle.machine.specs.Machine.{max_cells, ranges_of, runs_at}
use Rattle.machine.specs.Profile.{runs_in}
use Rattle.verifier.specs.Profile.{AcceptsIn}
use Rattle.tree_code.specs.Code.{code_of}
use Rattle.tree_code.specs.Demand.{Compiled}
use Rattle.compiler.specs.Compile.{compiling, coded_bytes}
use Rattle.compiler.proofs.Theorems.{compile-theorems}
use Rattle.targets.specs.Found.{index_bytes}
use Rattle.delivery.specs.declared.Answer.TheVariants.{Done, Refused}
use Rattle.operations.specs.Operations.{done_with, compile_answer, target_answer}
use Rattle.operations.specs.Profile.{compile_answer_for, compiled_code_for, compile_target_answer_for, compile_target_code_for}
use Rattle.operations.proofs.Requests.{kinded, with-room}
use Rattle.promises.specs.Terms.{compile_answer_of, compiled_code, Room, Ends}
use Rattle.promises.specs.Promises.{Faithful}
use Rattle.promises.proofs.Promises.{promises}
use Rattle.profile_text.specs.Trees.{integer_only}
use Rattle.profile_text.specs.Judge.{judge_in}
use Rattle.profile_text.specs.Targets.{target_in}
use Rattle.profile_text.proofs.Parts.{kind-int}
use Rattle.profile_text.proofs.Theorems.{profile-texts}
use Rattle.profile_code.proofs.Theorems.{profile-code}
use Rattle.profile_trees.proofs.Theorems.{profile-trees}
use Rattle.profile_laws.specs.Theorems.{IntegerCode, IntegerFaithful}
use Rattle.profile_laws.proofs.Verdicts.{same_runs, checks-all}
use Rattle.profile_laws.proofs.Asked.{took}

-- of a formula of the full box without a real part, compiled into a buffer with room
module _ (text : List ℕ) (t : Tree) (code : List ℕ) (j : judge text ≡ accepted t) (w : integer_only t ≡ true) (room : Room code) where
  demand : Compiled t (length text)
  demand = compile-theorems.demand text t j

  judged : compiling (length code) text ≡ accepted t
  judged = with-room code text room ∙ j

  whole : Faithful text t (coded_bytes code (accepted t)) (length (code_of t))
  whole =
      subst (λ (c : List ℕ). Faithful text t c (length (code_of t))) (ap (coded_bytes code) judged)
      (promises.faithful code ((text-theorems.accepts text t).0 j) (ap compile_answer judged))

  buffer-accepted : IntegerCode (coded_bytes code (accepted t)) (length (code_of t))
  buffer-accepted =
      subst (λ (c : List Instr). AcceptsIn false c K.Int) (sym (compile-theorems.there text code t j room))
      (profile-trees.compiled t (tree_kind t) w demand.accepted)

  runs : (tick : ℕ) (m : List ℕ) → runs_in false tick (coded_bytes code (accepted t)) (length (code_of t)) m
      ≡ runs_at tick (coded_bytes code (accepted t)) (length (code_of t)) m
  runs tick m = same_runs tick (coded_bytes code (accepted t)) (length (code_of t)) m buffer-accepted

  of_tree : IntegerFaithful text t (coded_bytes code (accepted t)) (length (code_of t))
  of_tree =
      record {
        full = whole;
        runs = runs;
        same = λ tick m. ap (λ (x : Ran). x.end) (runs tick m) ∙ whole.same tick m;
        accepted = buffer-accepted;
        checked = checks-all false (coded_bytes code (accepted t)) (length (code_of t)) K.Int buffer-accepted;
        quick = λ tick m. omega (arith, ap (λ (x : Ran). x.count) (runs tick m), whole.ends.quick tick m);
        integer = λ tick m. subst (λ (k : Kind). OfKind k (eval (memory_at tick m) t)) (kind-int t w) (demand.kind (memory_at tick m) (kinded tick m));
      }

pub compiles : (text : List ℕ) (t : Tree) (code : List ℕ) → judge_in false 0 text ≡ accepted t → Room code
    → compile_answer_for false text code ≡ done_with (length (code_of t))
compiles text t code e room =
    ap (λ (b : Bool). compile_answer (cond b (refused 10 0) (judge_in false 0 text))) (le-ltb (length code) 16384 room) ∙ ap compile_answer e

pub compiles_index : (target index : List ℕ) (b : Bank) (t : Tree) → target_in false target ≡ to_indexed b t → Room index
    → compile_target_answer_for false index target ≡ Done (Int (pos 0)) (length (code_of t)) b 0
compiles_index target index b t e room =
    ap (λ (l : Bool). cond l (Refused 10 0) (target_answer (target_in false target))) (le-ltb (length index) 16384 room) ∙ ap target_answer e

pub faithful : (text : List ℕ) (t : Tree) (code : List ℕ) → judge_in false 0 text ≡ accepted t → Room code
    → IntegerFaithful text t (compiled_code_for false text code) (length (code_of t))
faithful text t code e room =
    subst (λ (c : List ℕ). IntegerFaithful text t c (length (code_of t)))
    (sym (ap (λ (b : Bool). coded_bytes code (cond b (refused 10 0) (judge_in false 0 text))) (le-ltb (length code) 16384 room) ∙ ap (coded_bytes code) e))
    (of_tree text t code (took text t e).0 (took text t e).1 room)

pub faithful_index : (target index : List ℕ) (b : Bank) (t : Tree) → target_in false target ≡ to_indexed b t → Room index
    → IntegerFaithful (index_text target) t (compile_target_code_for false index target) (length (code_of t))
faithful_index target index b t e room =
    let h = (profile-texts.taken_indexed target b t).0 e in
    subst (λ (c : List ℕ). IntegerFaithful (index_text target) t c (length (code_of t)))
    (sym (ap (λ (l : Bool). cond l index (index_bytes index (target_in false target))) (le-ltb (length index) 16384 room) ∙ ap (index_bytes index) e))
    (of_tree (index_text target) t index ((text-theorems.accepts (index_text target) t).1 (promises.index_accepted target b t h.0)) h.1.1 room)

pub safe : (code : List ℕ) (n : ℕ) → IntegerCode code n
    → ((k : Kind) × Ends code n (n + max_cells * ranges_of (instructions code n)) k)
    × ((tick : ℕ) (m : List ℕ) → runs_in false tick code n m ≡ runs_at tick code n m)
safe code n a =
    (promises.safe code n ((promises.checks code n).1 (K.Int, ((profile-code.checked (instructions code n) K.Int).0 a).0)), λ tick m. same_runs tick code n m a)
