-- Where a run ends well and its value's destination is sound, what is stored or flagged: `StoredOrFault`. Destinations of good targets are sound.
use Rattle.std.specs.Prelude.{Option, Result, Some, None, Ok, Err}
use mathlib.Core.Path.{◌≡◌, refl, subst, sym, ◌∙◌}
use mathlib.Core.Bool.{Bool, true, false, cond}
use mathlib.Core.List.{List, [], ◌∷◌}
use Prim.Native.Nat.{ℕ, ◌+◌, ◌<◌}
use native.Mathlib.Omega.{arith}
use lib.Dec.{T}
use lib.ListN.{length, set}
use borrow.Author.Tests.{eq-eqb, lt-ltb}
use Rattle.values.specs.declared.Kind.{Kind}
use Rattle.values.specs.declared.Value.{Value}
use Rattle.values.specs.declared.Fault.{Fault as FaultName}
use Rattle.values.specs.declared.Fault.TheVariants.{OutOfRange}
use Rattle.values.specs.declared.Outcome.{Outcome}
use Rattle.operators.specs.Laws.{OfKind, done, stopped}
use Rattle.operators.proofs.Laws.{rule-laws}
use Rattle.memory.specs.declared.Bank.{Bank}
use Rattle.memory.specs.Layout.{image_size, layout_of, has_cell, flag_at}
use Rattle.memory.specs.Names.{letter_bank, target_rule}
use Rattle.memory.specs.Cells.{position_rule}
use Rattle.memory.specs.Store.{is_finite, encode_cell, with_flag, write_cell, answer_of}
use Rattle.memory.specs.Environment.{memory_at}
use Rattle.grammar.specs.Eval.{eval}
use Rattle.text.specs.Targets.{Target, to_cell, to_indexed, no_target, stored_bank, index_text, target_of}
use Rattle.code.specs.Instructions.{instructions}
use Rattle.machine.specs.declared.Ended.{Ended}
use Rattle.machine.specs.declared.Ended.TheVariants as Ended
use Rattle.machine.specs.Machine.{runs_at, end_of}
use Rattle.verifier.specs.Safety.{EndsWell, value}
use Rattle.verifier.specs.Safety as EndsWell
use Rattle.verifier.specs.Verdicts.{verdict}
use Rattle.verifier.proofs.Safe.{safe}
use Rattle.verifier.proofs.Verdicts.{verdict-laws}
use Rattle.compiler.proofs.Theorems.{compile-theorems-from}
use Rattle.targets.specs.declared.Element.{Element}
use Rattle.targets.specs.declared.Element.TheVariants.{Is, By}
use Rattle.targets.specs.Found.{found_of, by_letter, by_name, found_to_run}
use Rattle.targets.proofs.Theorems.{from-plain, indexed, target-theorems}
use Rattle.operations.specs.Operations.{Destination, lost, at_element, reached, destination_of, Arrival, arrival, is_accepted, index_passes}
use Rattle.operations.specs.Operations as Goes
use Rattle.operations.specs.Operations.{after_store, arrived_answer, arrived_memory, finished, memory_after}
use Rattle.operations.proofs.Requests.{kinded}
use Rattle.delivery.specs.declared.Answer.TheVariants.{Fault}
use Rattle.promises.specs.Terms as Term
use Rattle.promises.specs.Terms.{Names, own_cell, of-bank, StoredOrFault}
use Rattle.targets.proofs.Pairs.{first, second}

-- ---- destinations

-- an element of its bank, or a fault
pub data Sound : Destination → Type 0 where
  cell : {b : Bank} {i : ℕ} → i < (layout_of b).elements → Sound (Goes.cell b i)
  fault : {f : FaultName} → Sound (Goes.fault f)

at-element : (b : Bank) (v : Value) → Sound (at_element b (position_rule b v))
at-element b v = by (position_rule b v) refl
  where
    by : (p : (Result ℕ FaultName)) → position_rule b v ≡ p → Sound (at_element b p)
    by (Ok i) e = cell (rule-laws.index_element (layout_of b).elements v i e)
    by (Err f) e = fault

reached-sound : (b : Bank) {k : Kind} {e : Ended} → EndsWell k e → Sound (reached b e)
reached-sound b (value v q) = at-element b v
reached-sound b (EndsWell.fault f) = fault

pub ends-well : {k : Kind} {o : Outcome} → OfKind k o → EndsWell k (end_of o)
ends-well (done v e) = value v e
ends-well (stopped f) = EndsWell.fault f

-- what compile-and-run finds
pub target_sound : (target : List ℕ) (tick : ℕ) (m : List ℕ) {b : Bank} {e : Element} (g : Target) → target_of target ≡ g → found_of g ≡ Some (b, e)
    → Sound (destination_of (memory_at tick m) g)
target_sound target tick m (to_cell b i) q f = cell (target-theorems.cell-inside target b i q)
target_sound target tick m (to_indexed b t) q f =
    reached-sound b (ends-well (((compile-theorems-from 1).demand (index_text target) t (indexed target q).judged).kind (memory_at tick m) (kinded tick m)))
target_sound target tick m no_target q f = let z : ◌≡◌ {A = ℕ} 0 1 = cc in absurd (omega arith)

is-same : {i j : ℕ} → Is i ≡ Is j → i ≡ j
is-same e = cc

-- what run finds
run_inside : (k : ℕ) (s : List ℕ) {b : Bank} {i : ℕ} → found_to_run k s ≡ Some (b, Is i) → i < (layout_of b).elements
run_inside k [] e = let z : ◌≡◌ {A = ℕ} 0 1 = cc in absurd (omega arith)
run_inside k (c ∷ []) {b} {i} e = by (stored_bank (letter_bank c)) e
  where
    by : (l : Option Bank) → by_letter k l ≡ Some (b, Is i) → i < (layout_of b).elements
    by (Some d) e = let q : By k ≡ Is i = second e in let z : ◌≡◌ {A = ℕ} 0 1 = cc in absurd (omega arith)
    by None e = let z : ◌≡◌ {A = ℕ} 0 1 = cc in absurd (omega arith)
run_inside k (c ∷ d ∷ cs) {b} {i} e = by (target_rule (c ∷ d ∷ cs)) refl e
  where
    by : (x : (Option (Bank × ℕ))) → target_rule (c ∷ d ∷ cs) ≡ x → by_name x ≡ Some (b, Is i) → i < (layout_of b).elements
    by (Some (a, j)) q e =
        let p : a ≡ b = first e in
        let r : j ≡ i = is-same (second e) in
        let h = target-theorems.cell-inside (c ∷ d ∷ cs) a j (from-plain (c ∷ d ∷ cs) q) in
        rw (p, r) at h
    by None q e = let z : ◌≡◌ {A = ℕ} 0 1 = cc in absurd (omega arith)

pub run_sound : (k : ℕ) (target : List ℕ) (tick : ℕ) (index m : List ℕ) {b : Bank} (e : Element) → found_to_run k target ≡ Some (b, e) → index_passes index e ≡ true
    → Sound (arrival tick index m b e).destination
run_sound k target tick index m (Is i) f h = cell (run_inside k target f)
run_sound k target tick index m {b} (By j) f h = by (verdict (instructions index j)) refl h
  where
    by : (v : Option Kind) → verdict (instructions index j) ≡ v → is_accepted v ≡ true → Sound (arrival tick index m b (By j)).destination
    by (Some i) q h =
        reached-sound b (safe.ends (memory_at tick m) (instructions index j) i (kinded tick m) ((verdict-laws.exact (instructions index j) i).0 q))
    by None q h = let z : ◌≡◌ {A = ℕ} 0 1 = cc in absurd (omega arith)

-- ---- the end

module _ (m : List ℕ) (size : length m ≡ image_size) where
  pub flag : (f : FaultName) → with_flag m f ≡ set m (flag_at f) 1
  flag f = rw (eq-eqb (length m) image_size size)

  pub there : (b : Bank) (i : ℕ) → i < (layout_of b).elements → has_cell m b i ≡ true
  there b i h = rw (eq-eqb (length m) image_size size, lt-ltb i (layout_of b).elements h)

  module _ (n : ℕ) (a : Arrival) where
    kept : (v : Value) (b : Bank) (i : ℕ) → T (has_cell m b i) → is_finite v ≡ true → a.destination ≡ Goes.cell b i → (x : (Result ℕ FaultName)) → encode_cell b v ≡ x
        → StoredOrFault m n a (Ended.Done v) (after_store v (n + a.count) b i (answer_of x)) (write_cell m b i x)
    kept v b i c h q (Ok p) e = Term.stored q c e
    kept v b i c h q (Err f) e = rw (flag f) (Term.unstored h q e)

    arrives : (v : Value) → is_finite v ≡ true → (d : Destination) → a.destination ≡ d → Sound d
        → StoredOrFault m n a (Ended.Done v) (arrived_answer m v (n + a.count) d) (arrived_memory m v d)
    arrives v h lost q x'' = elim x'' [ ]
    arrives v h (Goes.cell _ _) q (cell {b} {i} l) = rw (there b i l) (kept v b i (rw (there b i l) tt) h q (encode_cell b v) refl)
    arrives v h (Goes.fault _) q (fault {f}) = rw (flag f) (Term.no_element h q)

    pub gives : Sound a.destination → {k : Kind} {e : Ended} → EndsWell k e → StoredOrFault m n a e (finished m a e n) (memory_after m a e)
    gives s (value v e) = by (is_finite v) refl
      where
        by : (t : Bool) → is_finite v ≡ t
            → StoredOrFault m n a (Ended.Done v) (cond t (arrived_answer m v (n + a.count) a.destination) (Fault OutOfRange n))
            (cond t (arrived_memory m v a.destination) (with_flag m OutOfRange))
        by true h = arrives v h a.destination refl s
        by false h = rw (flag OutOfRange) (Term.infinite h)
    gives s (EndsWell.fault f) = rw (flag f) Term.stopped

-- ---- the cell

of-reached : (b c : Bank) (i : ℕ) (e : Ended) → reached b e ≡ Goes.cell c i → b ≡ c
of-reached b c i (Ended.Done v) q = by (position_rule b v) q
  where
    by : (p : (Result ℕ FaultName)) → at_element b p ≡ Goes.cell c i → b ≡ c
    by (Ok j) e = cc
    by (Err f) e = let z : ◌≡◌ {A = ℕ} 0 1 = cc in absurd (omega arith)
of-reached b c i (Ended.Stopped f) e = let z : ◌≡◌ {A = ℕ} 0 1 = cc in absurd (omega arith)
of-reached b c i Ended.Stuck e = let z : ◌≡◌ {A = ℕ} 0 1 = cc in absurd (omega arith)

pub names-run : (tick : ℕ) (index m : List ℕ) (b : Bank) (e : Element) {c : Bank} {i : ℕ} → (arrival tick index m b e).destination ≡ Goes.cell c i
    → Names (Some (b, e)) c i
names-run tick index m b (Is j) {c} {i} q =
    let p : b ≡ c = cc in
    let r : j ≡ i = cc in
    subst (λ x. Names (Some (b, Is j)) c x) r (subst (λ x. Names (Some (b, Is j)) x j) p own_cell)
names-run tick index m b (By k) {c} {i} q = subst (λ x. Names (Some (b, By k)) x i) (of-reached b c i (runs_at tick index k m).end q) of-bank

pub names-target : (tick : ℕ) (m : List ℕ) (g : Target) {c : Bank} {i : ℕ} → destination_of (memory_at tick m) g ≡ Goes.cell c i → Names (found_of g) c i
names-target tick m (to_cell b j) {c} {i} q =
    let p : b ≡ c = cc in
    let r : j ≡ i = cc in
    subst (λ x. Names (Some (b, Is j)) c x) r (subst (λ x. Names (Some (b, Is j)) x j) p own_cell)
names-target tick m (to_indexed b t) {c} {i} q = subst (λ x. Names (found_of (to_indexed b t)) x i) (of-reached b c i (end_of (eval (memory_at tick m) t)) q) of-bank
names-target tick m no_target q = let z : ◌≡◌ {A = ℕ} 0 1 = cc in absurd (omega arith)
