-- Demand 2: which texts are accepted, and that the answer is what the rules give. What compile and compile-and-run do with a text is the same.
use mathlib.Core.Path.{◌≡◌, refl, sym, ap, subst, ◌∙◌}
use mathlib.Core.Bool.{Bool, true, false, cond}
use mathlib.Core.Logic.{◌↔◌, inl}
use mathlib.Core.List.{List}
use Prim.Native.Nat.{ℕ, ◌≤◌}
use native.Mathlib.Omega.{arith}
use lib.Dec.{ltb}
use lib.ListN.{length}
use borrow.Author.Tests.{le-ltb, ltb-false}
use Rattle.values.specs.declared.Fault.TheVariants.{OutOfRange}
use Rattle.memory.specs.declared.Bank.{Bank}
use Rattle.memory.specs.Environment.{memory_at}
use Rattle.grammar.specs.Tree.{Tree}
use Rattle.grammar.specs.Eval.{eval}
use Rattle.text.specs.Judge.{Judgement, accepted, refused, judge}
use Rattle.text.specs.Targets.{target_of}
use Rattle.text.specs.Theorems.{AcceptedFormula}
use Rattle.text.proofs.Theorems.{text-theorems}
use Rattle.machine.specs.declared.Ended.{Ended}
use Rattle.machine.specs.Machine.{runs_at, end_of}
use Rattle.tree_code.specs.Code.{code_of}
use Rattle.compiler.specs.Compile.{compiling, coded_bytes}
use Rattle.compiler.proofs.Theorems.{compile-theorems}
use Rattle.targets.specs.declared.Element.{Element}
use Rattle.targets.specs.Found.{index_bytes}
use Rattle.delivery.specs.declared.Answer.{Answer}
use Rattle.delivery.specs.declared.Answer.TheVariants.{Refused}
use Rattle.operations.specs.Operations.{done_with, compile_answer, compile_target_code, Arrival, arrival_of, of_text, request, request_answer, request_memory}
use Rattle.operations.specs.Operations.{request_code, request_index}
use Rattle.operations.proofs.Requests.{kinded, named, good-target, with-room}
use Rattle.promises.specs.Terms.{compile_answer_of, compiled_code, answer_number, Refusal, Ready, Room, StoredOrFault, stored, unstored, no_element}
use Rattle.promises.specs.Terms.{infinite, stopped}
use Rattle.promises.proofs.Numbers.{no-fault}
use Rattle.promises.proofs.Endings.{target_sound, ends-well, gives}

pub is-formula : {text : List ℕ} {t : Tree} → AcceptedFormula text t → judge text ≡ accepted t
is-formula {text} {t} a = (text-theorems.accepts text t).1 a

-- the number that refuses a text
low : (text : List ℕ) {a p : ℕ} → judge text ≡ refused a p → (3 ≤ a) × (a ≤ 9)
low text q = text-theorems.answers text _ _ q

pub compiles : (text code : List ℕ) → 16384 ≤ length code → answer_number (compile_answer_of text code) ≡ 0 ↔ ((t : Tree) × AcceptedFormula text t)
compiles text code h = rw (with-room code text h) (only (judge text) refl, λ x. rw (is-formula x.1) refl)
  where
    only : (j : Judgement) → judge text ≡ j → answer_number (compile_answer j) ≡ 0 → (t : Tree) × AcceptedFormula text t
    only (accepted t) q e = (t, (text-theorems.accepts text t).0 q)
    only (refused a p) q e = absurd (omega (arith, low text q))

-- a run that ends well is no refusal
no-refusal : {m m' : List ℕ} {n : ℕ} {a : Arrival} {e : Ended} {r : Answer} → StoredOrFault m n a e r m' → Refusal (answer_number r) → ⊥
no-refusal (stored q c e) x = omega arith
no-refusal (unstored {f = f} h q e) x = no-fault f x.1 refl
no-refusal (no_element {f = f} h q) x = no-fault f x.1 refl
no-refusal (infinite h) x = no-fault OutOfRange x.1 refl
no-refusal (stopped {f}) x = no-fault f x.1 refl

-- a compile that is done had room
pub has_room : {n : ℕ} (code s : List ℕ) → compile_answer_of s code ≡ done_with n → 16384 ≤ length code
has_room {n} code s e = by (ltb (length code) 16384) refl e
  where
    by : (b : Bool) → ltb (length code) 16384 ≡ b → compile_answer (cond b (refused 10 0) (judge s)) ≡ done_with n → 16384 ≤ length code
    by true l e = let z : ◌≡◌ {A = ℕ} 0 1 = cc in absurd (omega arith)
    by false l e = ltb-false (length code) 16384 l

-- what compile wrote of the tree t
pub record Written (s code : List ℕ) (t : Tree) (n : ℕ) : Type 0 where
  pub room : 16384 ≤ length code
  pub count : length (code_of t) ≡ n
  pub bytes : compiled_code s code ≡ coded_bytes code (accepted t)

pub written : (s code : List ℕ) {t : Tree} {n : ℕ} → judge s ≡ accepted t → compile_answer_of s code ≡ done_with n → Written s code t n
written s code {t} {n} q e =
    let h = has_room code s e in
    let w : compiling (length code) s ≡ accepted t = with-room code s h ∙ q in
    let d : done_with (length (code_of t)) ≡ done_with n = ap compile_answer (sym w) ∙ e in
    record { room = h; count = cc; bytes = ap (coded_bytes code) w }

-- what compile takes is a formula
pub formula : (text code : List ℕ) {n : ℕ} → compile_answer_of text code ≡ done_with n → (t : Tree) × AcceptedFormula text t
formula text code e = (compiles text code (has_room code text e)).0 (ap answer_number e)

-- an index buffer with room
pub index-code : (target index : List ℕ) → 16384 ≤ length index → compile_target_code index target ≡ index_bytes index (target_of target)
index-code target index h = rw (le-ltb (length index) 16384 h)

module _ {target m : List ℕ} {b : Bank} {e : Element} (tick : ℕ) (ready : Ready target m b e) where
  the-text : (text code index : List ℕ) → Room code → Room index → request target text m code index ≡ of_text code index (target_of target) (judge text)
  the-text text code index room more =
      named target text m code index ready.memory room more refl ∙ good-target text code index (target_of target) ready.goal

  pub the-tree : {text : List ℕ} {t : Tree} (code index : List ℕ) → Room code → Room index → AcceptedFormula text t
      → request target text m code index ≡ of_text code index (target_of target) (accepted t)
  the-tree {text} code index room more a = the-text text code index room more ∙ ap (of_text code index (target_of target)) (is-formula a)

  pub answers : {text : List ℕ} {t : Tree} {n : ℕ} (code index : List ℕ) → Room index → AcceptedFormula text t → compile_answer_of text code ≡ done_with n
      → StoredOrFault m (runs_at tick (compiled_code text code) n m).count (arrival_of tick (compile_target_code index target) m (target_of target))
      (end_of (eval (memory_at tick m) t)) (request_answer tick m (request target text m code index)) (request_memory tick m (request target text m code index))
  answers {text} {t} code index more a c =
      let w = written text code (is-formula a) c in
      let kind = (compile-theorems.demand text t (is-formula a)).kind (memory_at tick m) (kinded tick m) in
      rw (the-tree code index w.room more a, w.bytes, ← w.count, index-code target index more)
      (gives m ready.memory _ (arrival_of tick (index_bytes index (target_of target)) m (target_of target))
      (target_sound target tick m (target_of target) refl ready.goal) (ends-well kind))

  pub performs : (text code index : List ℕ) → Room code → Room index
      → (Refusal (answer_number (request_answer tick m (request target text m code index))) → ⊥) ↔ ((t : Tree) × AcceptedFormula text t)
  performs text code index room more = (
    rw (the-text text code index room more) (only (judge text) refl),
    λ x. no-refusal (answers code index more x.1 (taken x.1)),
  )
    where
      taken : {t : Tree} → AcceptedFormula text t → compile_answer_of text code ≡ done_with (length (code_of t))
      taken a = ap compile_answer (with-room code text room ∙ is-formula a)

      only : (j : Judgement) → judge text ≡ j → (Refusal (answer_number (request_answer tick m (of_text code index (target_of target) j))) → ⊥)
          → (t : Tree) × AcceptedFormula text t
      only (accepted t) q e = (t, (text-theorems.accepts text t).0 q)
      only (refused a p) q e = absurd (let h = low text q in e (omega arith, inl (omega arith)))

  pub same_code : (text code index : List ℕ) → Room code → Room index → request_code code (request target text m code index) ≡ compiled_code text code
  same_code text code index room more = rw (the-text text code index room more, with-room code text room) (by (judge text))
    where
      by : (j : Judgement) → request_code code (of_text code index (target_of target) j) ≡ coded_bytes code j
      by (accepted t) = refl
      by (refused a p) = refl

  pub same_index : {text : List ℕ} {t : Tree} (code index : List ℕ) → Room code → Room index → AcceptedFormula text t
      → request_index index (request target text m code index) ≡ compile_target_code index target
  same_index code index room more a = ap (request_index index) (the-tree code index room more a) ∙ sym (index-code target index more)

  pub same_refusal : (text desk box index : List ℕ) {a p : ℕ} → Room desk → Room box → Room index → compile_answer_of text desk ≡ Refused a p
      → request_answer tick m (request target text m box index) ≡ Refused a p
  same_refusal text desk box index {a} {p} here there more e =
      rw (the-text text box index there more) (by (judge text) (ap compile_answer (sym (with-room desk text here)) ∙ e))
    where
      by : (j : Judgement) → compile_answer j ≡ Refused a p → request_answer tick m (of_text box index (target_of target) j) ≡ Refused a p
      by (accepted t) e = let z : ◌≡◌ {A = ℕ} 0 1 = cc in absurd (omega arith)
      by (refused c d) e = e
