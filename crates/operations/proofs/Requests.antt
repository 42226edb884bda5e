-- Compile, compile a target, and compile and run: what each target and each judgement comes to; the request of the full box, and that the runs of compiled
-- code end as the rules say of the trees.
use Rattle.std.specs.Prelude.{Some, None, Ok, Err}
use mathlib.Core.Path.{◌≡◌, refl, sym, ap, ◌∙◌}
use mathlib.Core.Bool.{cond}
use mathlib.Core.List.{List, []}
use Prim.Native.Nat.{ℕ, ◌≤◌, ◌<◌}
use native.Mathlib.Omega.{arith}
use lib.Dec.{eqb, ltb}
use lib.IntN.{pos}
use lib.ListN.{length}
use borrow.Author.Tests.{eq-eqb, ne_eqb, lt-ltb, le-ltb}
use Rattle.values.specs.declared.Value.TheVariants.{Int}
use Rattle.memory.specs.declared.Bank.{Bank}
use Rattle.memory.specs.Layout.{image_size}
use Rattle.memory.specs.Environment.{memory_at}
use Rattle.grammar.specs.Tree.{Tree}
use Rattle.grammar.specs.Eval.{eval}
use Rattle.text.specs.Judge.{Judgement, accepted, refused, judge_from, judge}
use Rattle.text.specs.Targets.{Target, to_cell, to_indexed, no_target, index_text, target_of}
use Rattle.machine.specs.Machine.{exec, runs_at, end_of}
use Rattle.verifier.specs.Safety.{Kinded}
use Rattle.verifier.proofs.Safe.{memory-kinded}
use Rattle.tree_code.specs.Code.{code_of}
use Rattle.compiler.specs.Compile.{Coded, compiling, coded_answer, coded_bytes}
use Rattle.compiler.proofs.Theorems.{compile-theorems-from}
use Rattle.targets.specs.declared.Element.{Element}
use Rattle.targets.specs.declared.Element.TheVariants.{Is, By}
use Rattle.targets.specs.Found.{found_of, index_bytes}
use Rattle.targets.proofs.Theorems.{indexed}
use Rattle.delivery.specs.declared.Answer.{Answer}
use Rattle.delivery.specs.declared.Answer.TheVariants.{Done, Refused}
use Rattle.operations.specs.Operations.{done_with, compile_answer, target_answer, reached, arrival, arrival_of}
use Rattle.operations.specs.Operations.{Request, stops, of_text, of_target, request, request_answer, request_memory, request_code, request_index}
use Rattle.compiler.specs.Compile.{refusal}
use Rattle.targets.proofs.Pairs.{first, second, answer-is, place-is}

-- ---- compile alone

abbrev of_coded : Coded → Answer
of_coded (Ok n) = done_with n
of_coded (Err r) = Refused r.answer r.place

of-coded : (j : Judgement) → of_coded (coded_answer j) ≡ compile_answer j
of-coded (accepted t) = refl
of-coded (refused a p) = refl

pub answered : {x y : Coded} (j : Judgement) → x ≡ y → x ≡ coded_answer j → of_coded y ≡ compile_answer j
answered j e f = ap of_coded (sym e ∙ f) ∙ of-coded j

-- ---- a target alone

pub plain-answer : {b : Bank} {i : ℕ} (g : Target) → found_of g ≡ Some (b, Is i) → Done (Int (pos 0)) 0 b i ≡ target_answer g
plain-answer {b} {i} (to_cell c j) e = let p : c ≡ b = first e in let q : Is j ≡ Is i = second e in cc
plain-answer {b} {i} (to_indexed c t) e = let q : By (length (code_of t)) ≡ Is i = second e in let z : ◌≡◌ {A = ℕ} 0 1 = cc in absurd (omega arith)
plain-answer no_target e = let z : ◌≡◌ {A = ℕ} 0 1 = cc in absurd (omega arith)

pub indexed-answer : {b : Bank} {n : ℕ} (g : Target) → found_of g ≡ Some (b, By n) → Done (Int (pos 0)) n b 0 ≡ target_answer g
indexed-answer {b} {n} (to_cell c j) e = let q : Is j ≡ By n = second e in let z : ◌≡◌ {A = ℕ} 0 1 = cc in absurd (omega arith)
indexed-answer {b} {n} (to_indexed c t) e = let p : c ≡ b = first e in let q : By (length (code_of t)) ≡ By n = second e in cc
indexed-answer no_target e = let z : ◌≡◌ {A = ℕ} 0 1 = cc in absurd (omega arith)

pub bad-answer : (g : Target) → found_of g ≡ None → Refused 2 0 ≡ target_answer g
bad-answer (to_cell b i) e = let z : ◌≡◌ {A = ℕ} 0 1 = cc in absurd (omega arith)
bad-answer (to_indexed b t) e = let z : ◌≡◌ {A = ℕ} 0 1 = cc in absurd (omega arith)
bad-answer no_target e = refl

-- a plain cell keeps the buffer
pub keeps-index : {b : Bank} {i : ℕ} (index : List ℕ) (g : Target) → found_of g ≡ Some (b, Is i) → index ≡ index_bytes index g
keeps-index index (to_cell b i) e = refl
keeps-index {i = i} index (to_indexed b t) e = let q : By (length (code_of t)) ≡ Is i = second e in let z : ◌≡◌ {A = ℕ} 0 1 = cc in absurd (omega arith)
keeps-index index no_target e = refl

-- ---- the request

-- the sizes of what is lent are looked at before the request q
module _ (m code index : List ℕ) (q : Request) where
  abbrev pub sized : Request
  sized = cond (eqb (length m) image_size) (cond (ltb (length code) 16384) (stops 10 0) (cond (ltb (length index) 16384) (stops 10 0) q)) (stops 1 0)

  pub wrong_size : (length m ≡ image_size → ⊥) → sized ≡ stops 1 0
  wrong_size h = rw (ne_eqb (length m) image_size h)

  module _ (h : length m ≡ image_size) where
    pub short-code : length code < 16384 → sized ≡ stops 10 0
    short-code l = rw (eq-eqb (length m) image_size h, lt-ltb (length code) 16384 l)

    pub short-index : 16384 ≤ length code → length index < 16384 → sized ≡ stops 10 0
    short-index c l = rw (eq-eqb (length m) image_size h, le-ltb (length code) 16384 c, lt-ltb (length index) 16384 l)

    pub right-sizes : 16384 ≤ length code → 16384 ≤ length index → sized ≡ q
    right-sizes c l = rw (eq-eqb (length m) image_size h, le-ltb (length code) 16384 c, le-ltb (length index) 16384 l)

-- in the full box
module _ (target text m code index : List ℕ) where
  abbrev asked : Request
  asked = of_target text code index (target_of target)

  module _ (h : length m ≡ image_size) where
    -- whatever the target is
    pub no-index-room : 16384 ≤ length code → length index < 16384 → request target text m code index ≡ stops 10 0
    no-index-room c l = short-index m code index asked h c l

    pub no_room : length code < 16384 → request target text m code index ≡ stops 10 0
    no_room l = short-code m code index asked h l

    pub named : {g : Target} → 16384 ≤ length code → 16384 ≤ length index → target_of target ≡ g → request target text m code index ≡ of_target text code index g
    named c l e = right-sizes m code index asked h c l ∙ ap (of_target text code index) e

  pub no-memory : (length m ≡ image_size → ⊥) → request target text m code index ≡ stops 1 0
  no-memory h = wrong_size m code index asked h

-- a target that is found
pub good-target : {b : Bank} {e : Element} (text code index : List ℕ) (g : Target) → found_of g ≡ Some (b, e)
    → of_target text code index g ≡ of_text code index g (judge text)
good-target text code index (to_cell b i) e = refl
good-target text code index (to_indexed b t) e = refl
good-target text code index no_target e = let z : ◌≡◌ {A = ℕ} 0 1 = cc in absurd (omega arith)

-- the answer, the memory and both codes are those of the request
abbrev pub Performs : ℕ → Request → List ℕ → List ℕ → List ℕ → Answer → List ℕ → List ℕ → List ℕ → Type 0
Performs tick q m code index r m' code' index' =
    (r ≡ request_answer tick m q) × ((m' ≡ request_memory tick m q) × ((code' ≡ request_code code q) × (index' ≡ request_index index q)))

pub refuses : {q : Request} {a p : ℕ} (tick : ℕ) (m code index : List ℕ) → q ≡ stops a p → Performs tick q m code index (Refused a p) m code index
refuses tick m code index e = rw e (refl, (refl, (refl, refl)))

-- ---- the runs of compiled code

-- what a memory gives at any tick is of its bank's kind
pub kinded : (tick : ℕ) (m : List ℕ) → Kinded (memory_at tick m)
kinded tick m = record { cell = (memory-kinded m).cell }

module _ (d : ℕ) (s : List ℕ) (t : Tree) (e : judge_from d s ≡ accepted t) (tick : ℕ) (m : List ℕ) where
  -- whatever else the buffer holds
  pub run-code : (code : List ℕ) → 16384 ≤ length code → runs_at tick (coded_bytes code (accepted t)) (length (code_of t)) m
      ≡ exec (memory_at tick m) (code_of t) 0 []
  run-code code h = ap (λ c. exec (memory_at tick m) c 0 []) ((compile-theorems-from d).there s code t e h)

  pub run-tree : (code : List ℕ) → 16384 ≤ length code → (runs_at tick (coded_bytes code (accepted t)) (length (code_of t)) m).end
      ≡ end_of (eval (memory_at tick m) t)
  run-tree code h = ap (λ x. x.end) (run-code code h) ∙ ((compile-theorems-from d).demand s t e).same (memory_at tick m) (kinded tick m)

module _ (target : List ℕ) where
  -- where the index's code leads is where the rules lead
  pub arrives : {b : Bank} {e : Element} (tick : ℕ) (m index : List ℕ) (g : Target) → target_of target ≡ g → 16384 ≤ length index → found_of g ≡ Some (b, e)
      → arrival tick (index_bytes index g) m b e ≡ arrival_of tick (index_bytes index g) m g
  arrives {b} {e} tick m index (to_cell c i) q h f =
      let p : b ≡ c = sym (first f) in
      let r : e ≡ Is i = sym (second f) in
      rw (p, r)
  arrives {b} {e} tick m index (to_indexed c t) q h f =
      let p : b ≡ c = sym (first f) in
      let r : e ≡ By (length (code_of t)) = sym (second f) in
      let x = run-tree 1 (index_text target) t (indexed target q).judged tick m index h in
      rw (p, r) (ap (λ d. record { destination = reached c d; count = (runs_at tick (coded_bytes index (accepted t)) (length (code_of t)) m).count }) x)
  arrives tick m index no_target q h f = let z : ◌≡◌ {A = ℕ} 0 1 = cc in absurd (omega arith)

-- the text is refused
pub refuses-text : {q : Request} (tick : ℕ) (code index m : List ℕ) (g : Target) (j : Judgement) {a p : ℕ} {code' : List ℕ}
    → q ≡ of_text code index g j → Err (refusal a p) ≡ coded_answer j → code' ≡ coded_bytes code j
    → Performs tick q m code index (Refused a p) m code' index
refuses-text tick code index m g (accepted t) o e w = let z : ◌≡◌ {A = ℕ} 0 1 = cc in absurd (omega arith)
refuses-text tick code index m g (refused b q) {a} {p} o e w =
    let x : a ≡ b = answer-is e in
    let y : p ≡ q = place-is e in
    rw o (cc, (refl, (w, refl)))

-- a buffer with room leaves the judgement to the text
pub with-room : (code s : List ℕ) → 16384 ≤ length code → compiling (length code) s ≡ judge s
with-room code s h = rw (le-ltb (length code) 16384 h)
