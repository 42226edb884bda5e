-- What a request depends on: its texts and lengths; so does its effect, and its answer depends on no byte of the buffers.
use mathlib.Core.Path.{◌≡◌, refl, sym, ap, ◌∙◌}
use mathlib.Core.Bool.{Bool, true, false, cond}
use mathlib.Core.List.{List}
use Prim.Native.Nat.{ℕ, ◌≤◌}
use lib.Dec.{eqb, ltb}
use lib.ListN.{length}
use lib.Seq.{length-sets}
use borrow.Author.Tests.{ltb-false}
use Rattle.memory.specs.declared.Bank.{Bank}
use Rattle.memory.specs.Layout.{image_size}
use Rattle.memory.specs.Environment.{memory_at}
use Rattle.grammar.specs.Tree.{Tree}
use Rattle.grammar.specs.Eval.{eval}
use Rattle.text.specs.Judge.{Judgement, accepted, refused, judge}
use Rattle.text.specs.Targets.{Target, to_cell, to_indexed, no_target, target_of, index_text}
use Rattle.machine.specs.declared.Ran.{Ran}
use Rattle.machine.specs.Machine.{end_of, runs_at}
use Rattle.read_set.specs.Cells.{Cells}
use Rattle.tree_code.specs.Code.{code_of}
use Rattle.compiler.specs.Compile.{encode_all, coded_bytes}
use Rattle.targets.specs.Found.{index_bytes}
use Rattle.targets.proofs.Theorems.{indexed}
use Rattle.operations.specs.Operations.{destination_of, index_begun, arrival_of, finished, Request, stores, stops, of_text, of_target, request}
use Rattle.operations.specs.Operations.{request_answer, request_memory, request_code, request_index}
use Rattle.operations.proofs.Requests.{run-code}
use Rattle.list_laws.specs.Running.{Listed, Buffers, request_of, stepped, answered}
use Rattle.list_laws.specs.Independence.{write_set, read_set, Disjoint, Independent, SameLengths, SameRequest, both_store, both_stop}
use Rattle.list_laws.proofs.Effects.{effect_of, applied, does, effect-same, applied-length}

-- ---- texts and lengths

-- the refusals of sizes, by what the tests of the three lengths give, or what follows
abbrev sized : Bool → Bool → Bool → Request → Request
sized x y z q = cond x (cond y (stops 10 0) (cond z (stops 10 0) q)) (stops 1 0)

abbrev small : ℕ → Bool
small n = ltb n 16384

module _ (text code index code' index' : List ℕ) where
  same_text : (g : Target) (j : Judgement) → SameRequest (of_text code index g j) (of_text code' index' g j)
  same_text g (accepted t) = both_store g t _ _ _ _
  same_text g (refused a p) = both_stop a p

  same_target : (g : Target) → SameRequest (of_target text code index g) (of_target text code' index' g)
  same_target (to_cell b i) = same_text (to_cell b i) (judge text)
  same_target (to_indexed b t) = same_text (to_indexed b t) (judge text)
  same_target no_target = both_stop 2 0

  same-room : (x y z : Bool) (g : Target)
      → SameRequest (sized x y z (of_target text code index g)) (sized x y z (of_target text code' index' g))
  same-room true true z g = both_stop 10 0
  same-room true false true g = both_stop 10 0
  same-room true false false g = same_target g
  same-room false y z g = both_stop 1 0

pub asked : (e : Listed) (r s : Buffers) → SameLengths r s → SameRequest (request_of e r) (request_of e s)
asked e r s h =
    rw (h.memory, h.code, h.index)
    (same-room e.text r.code r.index s.code s.index
    (eqb (length s.memory) image_size) (small (length s.code)) (small (length s.index)) (target_of e.target))

abbrev Sets : Cells → Cells → Cells → Cells → Type 0
Sets w r w' r' = Disjoint w w' × (Disjoint r w' × Disjoint r' w)

sets_same : {p p' q q' : Request} → SameRequest p p' → SameRequest q q' → Sets (write_set p) (read_set p) (write_set q) (read_set q)
    → Sets (write_set p') (read_set p') (write_set q') (read_set q')
sets_same (both_store g t c i c' i') (both_store h u d j d' j') n = n
sets_same (both_store g t c i c' i') (both_stop a p) n = n
sets_same (both_stop a p) (both_store h u d j d' j') n = n
sets_same (both_stop a p) (both_stop b q) n = n

pub independent-same : {p p' q q' : Request} → SameRequest p p' → SameRequest q q' → Independent p q → Independent p' q'
independent-same h k n =
    let sets = sets_same h k (n.targets, (n.reads_first, n.reads_second)) in
    record { targets = sets.0; reads_first = sets.1.0; reads_second = sets.1.1 }

-- ---- the memory afterwards
pub memory-same : {p q : Request} (tick : ℕ) (m : List ℕ) → SameRequest p q → request_memory tick m p ≡ request_memory tick m q
memory-same {p} {q} tick m h = does tick m p ∙ ap (applied m) (effect-same (memory_at tick m) h) ∙ sym (does tick m q)

-- ---- lengths stay
coded-length : (code : List ℕ) (t : Tree) → length (coded_bytes code (accepted t)) ≡ length code
coded-length code t = length-sets code 0 (encode_all (code_of t))

index-length : (index : List ℕ) (g : Target) → length (index_bytes index g) ≡ length index
index-length index (to_cell b i) = refl
index-length index (to_indexed b t) = coded-length index t
index-length index no_target = refl

module _ (text code index : List ℕ) where
  lengths-text : (g : Target) (j : Judgement)
      → (length (request_code code (of_text code index g j)) ≡ length code) × (length (request_index index (of_text code index g j)) ≡ length index)
  lengths-text g (accepted t) = (coded-length code t, index-length index g)
  lengths-text g (refused a p) = (refl, refl)

  lengths-target : (g : Target)
      → (length (request_code code (of_target text code index g)) ≡ length code) × (length (request_index index (of_target text code index g)) ≡ length index)
  lengths-target (to_cell b i) = lengths-text (to_cell b i) (judge text)
  lengths-target (to_indexed b t) = lengths-text (to_indexed b t) (judge text)
  lengths-target no_target = (refl, refl)

  lengths-room : (x y z : Bool) (g : Target) → let q = sized x y z (of_target text code index g) in
      (length (request_code code q) ≡ length code) × (length (request_index index q) ≡ length index)
  lengths-room true true z g = (refl, refl)
  lengths-room true false true g = (refl, refl)
  lengths-room true false false g = lengths-target g
  lengths-room false y z g = (refl, refl)

pub step-lengths : (tick : ℕ) (e : Listed) (s : Buffers) → SameLengths (stepped tick e s) s
step-lengths tick e s =
    let fits = eqb (length s.memory) image_size in
    let both = lengths-room e.text s.code s.index fits (small (length s.code)) (small (length s.index)) (target_of e.target) in
    record {
      memory = ap length (does tick s.memory (request_of e s)) ∙ applied-length s.memory (effect_of (memory_at tick s.memory) (request_of e s));
      code = both.0;
      index = both.1;
    }

-- ---- the answer: the counts are those of the codes, whatever else the buffers hold
module _ (tick : ℕ) (m target text code index code' index' : List ℕ) where
  abbrev Room : Type 0
  Room = (16384 ≤ length code) × (16384 ≤ length code')

  abbrev IndexRoom : Type 0
  IndexRoom = (16384 ≤ length index) × (16384 ≤ length index')

  begun-same : (g : Target) → target_of target ≡ g → IndexRoom → index_begun tick (index_bytes index g) m g ≡ index_begun tick (index_bytes index' g) m g
  begun-same (to_cell b i) e h = refl
  begun-same (to_indexed b t) e h =
      let j = (indexed target e).judged in
      ap (λ (x : Ran). x.count) (run-code 1 (index_text target) t j tick m index h.0 ∙ sym (run-code 1 (index_text target) t j tick m index' h.1))
  begun-same no_target e h = refl

  answer-text : (g : Target) → target_of target ≡ g → IndexRoom → Room → (j : Judgement) → judge text ≡ j
      → request_answer tick m (of_text code index g j) ≡ request_answer tick m (of_text code' index' g j)
  answer-text g e h r (accepted t) j =
      let E = memory_at tick m in
      let n = (runs_at tick (coded_bytes code (accepted t)) (length (code_of t)) m).count in
      let both = run-code 0 text t j tick m code r.0 ∙ sym (run-code 0 text t j tick m code' r.1) in
      ap (λ (k : ℕ). finished m (record { destination = destination_of E g; count = k }) (end_of (eval E t)) n) (begun-same g e h)
      ∙ ap (λ (x : Ran). finished m (arrival_of tick (index_bytes index' g) m g) (end_of (eval E t)) x.count) both
  answer-text g e h r (refused a p) j = refl

  answer-target : (g : Target) → target_of target ≡ g → IndexRoom → Room
      → request_answer tick m (of_target text code index g) ≡ request_answer tick m (of_target text code' index' g)
  answer-target (to_cell b i) e h r = answer-text (to_cell b i) e h r (judge text) refl
  answer-target (to_indexed b t) e h r = answer-text (to_indexed b t) e h r (judge text) refl
  answer-target no_target e h r = refl

  answer-room : (x y z : Bool) → small (length code) ≡ y → small (length code') ≡ y → small (length index) ≡ z → small (length index') ≡ z
      → request_answer tick m (sized x y z (of_target text code index (target_of target)))
      ≡ request_answer tick m (sized x y z (of_target text code' index' (target_of target)))
  answer-room true true z c c' i i' = refl
  answer-room true false true c c' i i' = refl
  answer-room true false false c c' i i' =
      answer-target (target_of target) refl
      (ltb-false (length index) 16384 i, ltb-false (length index') 16384 i')
      (ltb-false (length code) 16384 c, ltb-false (length code') 16384 c')
  answer-room false y z c c' i i' = refl

pub answer-same : (tick : ℕ) (m target text code index code' index' : List ℕ) → length code ≡ length code' → length index ≡ length index'
    → request_answer tick m (request target text m code index) ≡ request_answer tick m (request target text m code' index')
answer-same tick m target text code index code' index' h k =
    let fits = eqb (length m) image_size in
    let asks = of_target text code index (target_of target) in
    ap (λ (y : Bool). request_answer tick m (sized fits y (small (length index)) asks)) (ap small h)
    ∙ ap (λ (z : Bool). request_answer tick m (sized fits (small (length code')) z asks)) (ap small k)
    ∙ answer-room tick m target text code index code' index' fits (small (length code')) (small (length index')) (ap small h) refl (ap small k) refl
