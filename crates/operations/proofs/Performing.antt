-- `compile_and_run_in`: the request as the tests find it, and that the runs of compiled code end as the rules say of the trees, with reals or without.
use Rattle.std.specs.Prelude.{Some, None, Ok}
use mathlib.Core.Path.{◌≡◌, refl, sym, ap, subst, ◌∙◌}
use mathlib.Core.Bool.{Bool, true, false, not, ◌||◌}
use mathlib.Core.List.{List, []}
use Prim.Native.Nat.{ℕ, ◌≤◌}
use native.Mathlib.Omega.{arith}
use lib.ListN.{length}
use borrow.Author.Tests.{le-ltb}
use Rattle.memory.specs.declared.Bank.{Bank}
use Rattle.memory.specs.Environment.{memory_at}
use Rattle.grammar.specs.Tree.{Tree, tree_kind}
use Rattle.grammar.specs.Parse.{most_open}
use Rattle.text.specs.Judge.{Judgement, accepted, refused, judge_from}
use Rattle.text.specs.Targets.{Target, to_cell, to_indexed, no_target, index_text, target_of}
use Rattle.profile.specs.Parts.{real_bank}
use Rattle.profile_text.specs.Trees.{integer_only}
use Rattle.profile_text.specs.Judge.{judge_in}
use Rattle.profile_text.specs.Targets.{target_in}
use Rattle.profile_text.proofs.Theorems.{profile-texts}
use Rattle.machine.specs.declared.Ran.{Ran}
use Rattle.machine.specs.Machine.{runs_at}
use Rattle.machine.specs.Profile.{exec_in, runs_in}
use Rattle.tree_code.specs.Code.{code_of}
use Rattle.profile_trees.proofs.Theorems.{profile-trees}
use Rattle.compiler.specs.Compile.{Coded, compiling_in, coded_answer, coded_bytes}
use Rattle.compiler.proofs.Theorems.{compile-theorems-from}
use Rattle.compiler.proofs.Theorems as Compile
use Rattle.targets.specs.declared.Element.{Element}
use Rattle.targets.specs.declared.Element.TheVariants.{Is, By}
use Rattle.targets.specs.Found.{found_of, index_bytes}
use Rattle.targets.proofs.Theorems.{indexed}
use Rattle.delivery.specs.declared.Answer.{Answer}
use Rattle.operations.specs.Operations.{arrival_of, finished, memory_after, Request, stops, of_text}
use Rattle.operations.specs.Profile.{arrival_for, of_target_for}
use Rattle.delivery.specs.private.Bounds.{Few, none, some}
use Rattle.operations.proofs.Verdicts.{Finishes}
use Rattle.operations.proofs.Requests.{kinded, run-code, run-tree, arrives, Performs}
use Rattle.operations.proofs.Full.{arrival-same}
use Rattle.targets.proofs.Pairs.{first, second}

-- ---- a target that is found

pub bad_target : (reals : Bool) (text code index : List ℕ) (g : Target) → found_of g ≡ None → of_target_for reals text code index g ≡ stops 2 0
bad_target reals text code index (to_cell b i) e = let z : ◌≡◌ {A = ℕ} 0 1 = cc in absurd (omega arith)
bad_target reals text code index (to_indexed b t) e = let z : ◌≡◌ {A = ℕ} 0 1 = cc in absurd (omega arith)
bad_target reals text code index no_target e = refl

pub good-target : {b : Bank} {e : Element} (reals : Bool) (text code index : List ℕ) (g : Target) → found_of g ≡ Some (b, e)
    → of_target_for reals text code index g ≡ of_text code index g (judge_in reals 0 text)
good-target reals text code index (to_cell b i) e = refl
good-target reals text code index (to_indexed b t) e = refl
good-target reals text code index no_target e = let z : ◌≡◌ {A = ℕ} 0 1 = cc in absurd (omega arith)

-- ---- what is taken without reals the full box takes, and no part of it is real

module _ (target : List ℕ) {b : Bank} {e : Element} where
  taken-target : (reals : Bool) (g : Target) → target_in reals target ≡ g → found_of g ≡ Some (b, e) → target_of target ≡ g
  taken-target true g q f = q
  taken-target false (to_cell c i) q f = ((profile-texts.taken_cell target c i).0 q).0
  taken-target false (to_indexed c t) q f = ((profile-texts.taken_indexed target c t).0 q).0
  taken-target false no_target q f = let z : ◌≡◌ {A = ℕ} 0 1 = cc in absurd (omega arith)

  pub target-bank : (reals : Bool) (g : Target) → target_in reals target ≡ g → found_of g ≡ Some (b, e) → (reals || not (real_bank b)) ≡ true
  target-bank true g q f = refl
  target-bank false (to_cell c i) q f =
      subst (λ b. not (real_bank b) ≡ true) (first f) (ap not ((profile-texts.taken_cell target c i).0 q).1)
  target-bank false (to_indexed c t) q f =
      subst (λ b. not (real_bank b) ≡ true) (first f) (ap not ((profile-texts.taken_indexed target c t).0 q).1.0)
  target-bank false no_target q f = let z : ◌≡◌ {A = ℕ} 0 1 = cc in absurd (omega arith)

taken-index : (reals : Bool) (target : List ℕ) (b : Bank) (t : Tree) → target_in reals target ≡ to_indexed b t → (reals || integer_only t) ≡ true
taken-index true target b t q = refl
taken-index false target b t q = ((profile-texts.taken_indexed target b t).0 q).1.1

taken-text : (reals : Bool) (s : List ℕ) (t : Tree) → judge_in reals 0 s ≡ accepted t → (judge_from 0 s ≡ accepted t) × ((reals || integer_only t) ≡ true)
taken-text true s t e = (sym (profile-texts.full 0 s) ∙ e, refl)
taken-text false s t e = let none_open : 0 ≤ most_open = omega arith in (profile-texts.accepts 0 s t none_open).0 e

-- ---- the runs of compiled code

module _ (reals : Bool) (d : ℕ) (s : List ℕ) (t : Tree) (e : judge_from d s ≡ accepted t) (i : (reals || integer_only t) ≡ true) (tick : ℕ) (m : List ℕ) where
  same_run : (code : List ℕ) → 16384 ≤ length code
      → runs_in reals tick (coded_bytes code (accepted t)) (length (code_of t)) m ≡ runs_at tick (coded_bytes code (accepted t)) (length (code_of t)) m
  same_run code h =
      ap (λ c. exec_in reals (memory_at tick m) c 0 []) ((compile-theorems-from d).there s code t e h)
      ∙ profile-trees.ran reals (memory_at tick m) t (tree_kind t) (kinded tick m) i ((compile-theorems-from d).demand s t e).accepted
      ∙ sym (run-code d s t e tick m code h)

module _ (reals : Bool) (target : List ℕ) where
  -- the index's code is short
  pub few-compiled : {b : Bank} {e : Element} (g : Target) → target_in reals target ≡ g → found_of g ≡ Some (b, e) → Few e
  few-compiled (to_cell b i) q f = subst Few (second f) none
  few-compiled (to_indexed b t) q f =
      subst Few (second f) (some (Compile.short 1 (index_text target) t (indexed target (taken-target target reals (to_indexed b t) q f)).judged))
  few-compiled no_target q f = let z : ◌≡◌ {A = ℕ} 0 1 = cc in absurd (omega arith)

  module _ {b : Bank} {e : Element} (tick : ℕ) (m index : List ℕ) where
    -- its run is the full box's
    index-runs : (g : Target) → target_in reals target ≡ g → 16384 ≤ length index → found_of g ≡ Some (b, e) → (k : ℕ) → e ≡ By k
        → runs_in reals tick (index_bytes index g) k m ≡ runs_at tick (index_bytes index g) k m
    index-runs (to_cell c i) q h f k r = let s : Is i ≡ By k = second f ∙ r in let z : ◌≡◌ {A = ℕ} 0 1 = cc in absurd (omega arith)
    index-runs (to_indexed c t) q h f k r =
        let s : By (length (code_of t)) ≡ By k = second f ∙ r in
        let p : length (code_of t) ≡ k = cc in
        let j = (indexed target (taken-target target reals (to_indexed c t) q f)).judged in
        subst (λ k. runs_in reals tick (coded_bytes index (accepted t)) k m ≡ runs_at tick (coded_bytes index (accepted t)) k m) p
        (same_run reals 1 (index_text target) t j (taken-index reals target c t q) tick m index h)
    index-runs no_target q h f k r = let z : ◌≡◌ {A = ℕ} 0 1 = cc in absurd (omega arith)

    -- so it leads where the rules lead
    pub arrives_in : (g : Target) → target_in reals target ≡ g → 16384 ≤ length index → found_of g ≡ Some (b, e)
        → arrival_for reals tick (index_bytes index g) m b e ≡ arrival_of tick (index_bytes index g) m g
    arrives_in g q h f =
        arrival-same reals tick (index_bytes index g) m b e (index-runs g q h f) ∙ arrives target tick m index g (taken-target target reals g q f) h f

-- the judgement j of the text s was compiled, and what was written was run on m; then came what follows a value, or the flag
pub performs : {q : Request} (reals : Bool) (tick : ℕ) (s code index m : List ℕ) (g : Target) (b : Bank) (e : Element)
    (j : Judgement) {n : ℕ} {code' index' : List ℕ} {x : Ran} {r : Answer} {m' : List ℕ}
    → q ≡ of_text code index g j → judge_in reals 0 s ≡ j → 16384 ≤ length code → Ok n ≡ coded_answer j → code' ≡ coded_bytes code j
    → index' ≡ index_bytes index g → x ≡ runs_in reals tick code' n m
    → arrival_for reals tick (index_bytes index g) m b e ≡ arrival_of tick (index_bytes index g) m g
    → Finishes m (arrival_for reals tick index' m b e) x r m' → Performs tick q m code index r m' code' index'
performs reals tick s code index m g b e (accepted t) {n} {code'} {index'} {x} {r} {m'} o j h a w i f v y =
    let l : n ≡ length (code_of t) = cc in
    let c : runs_in reals tick code' n m ≡ runs_in reals tick (coded_bytes code (accepted t)) (length (code_of t)) m = cc in
    let k = taken-text reals s t j in
    let u = same_run reals 0 s t k.0 k.1 tick m code h in
    let p : arrival_for reals tick index' m b e ≡ arrival_of tick (index_bytes index g) m g = ap (λ i. arrival_for reals tick i m b e) i ∙ v in
    let z = subst (λ x. Finishes m (arrival_of tick (index_bytes index g) m g) x r m') (f ∙ c ∙ u) (subst (λ a. Finishes m a x r m') p y) in
    let d = run-tree 0 s t k.0 tick m code h in
    let a = arrival_of tick (index_bytes index g) m g in
    rw o (z.0 ∙ ap (λ d. finished m a d (runs_at tick (coded_bytes code (accepted t)) (length (code_of t)) m).count) d, (z.1 ∙ ap (memory_after m a) d, (w, i)))
performs reals tick s code index m g b e (refused a p) o j h d w i f v y = let z : ◌≡◌ {A = ℕ} 0 1 = cc in absurd (omega arith)

-- what compiling answered and wrote is what the judgement i of the text says
module _ {j i : Judgement} (q : j ≡ i) where
  pub coded-as : {x y : Coded} → x ≡ y → x ≡ coded_answer j → y ≡ coded_answer i
  coded-as e f = sym e ∙ f ∙ ap coded_answer q

  pub written_as : (code : List ℕ) {code' : List ℕ} → code' ≡ coded_bytes code j → code' ≡ coded_bytes code i
  written_as code w = w ∙ ap (coded_bytes code) q

-- compiled code is short
pub few-coded : (reals : Bool) (s : List ℕ) (j : Judgement) {n : ℕ} → judge_in reals 0 s ≡ j → Ok n ≡ coded_answer j → n ≤ 2048
few-coded reals s (accepted t) {n} q e = let l : n ≡ length (code_of t) = cc in omega (arith, Compile.short 0 s t (taken-text reals s t q).0)
few-coded reals s (refused a p) q e = let z : ◌≡◌ {A = ℕ} 0 1 = cc in absurd (omega arith)

-- a buffer with room leaves the judgement to the text
pub with-room : (reals : Bool) (code s : List ℕ) → 16384 ≤ length code → compiling_in reals 0 (length code) s ≡ judge_in reals 0 s
with-room reals code s h = rw (le-ltb (length code) 16384 h)
