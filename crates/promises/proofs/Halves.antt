-- Run is its two halves in turn, by the definitions; the counts are added.
use Rattle.std.specs.Prelude.{Option, Result, Some, None, Ok, Err, ⊤}
use mathlib.Core.Path.{◌≡◌, refl, sym, ap, ap₂, subst⁻¹, ◌∙◌}
use mathlib.Core.Bool.{Bool, true, false, cond}
use mathlib.Core.List.{List}
use Prim.Native.Nat.{ℕ, ◌+◌}
use native.Mathlib.Nat.{add-zero, zero-add}
use native.Mathlib.Omega.{arith}
use lib.Dec.{eqb, lit<}
use lib.ListN.{length}
use Rattle.words.specs.Laws.{Bytes}
use Rattle.reals.proofs.Laws.{real-laws}
use Rattle.values.specs.declared.Value.{Value}
use Rattle.values.specs.declared.Value.TheVariants.{Int, Real}
use Rattle.values.specs.declared.Fault.{Fault as FaultName}
use Rattle.values.specs.declared.Fault.TheVariants.{OutOfRange}
use Rattle.values.proofs.Laws.{pattern-laws}
use Rattle.operators.specs.Laws.{Proper, int, real}
use Rattle.memory.specs.declared.Bank.{Bank}
use Rattle.memory.specs.declared.Bank.TheVariants.{X}
use Rattle.memory.specs.Layout.{image_size}
use Rattle.memory.specs.Store.{is_finite, with_flag, store_answer}
use Rattle.memory.specs.Environment.{memory_at}
use Rattle.grammar.specs.Tree.{Tree}
use Rattle.grammar.specs.Eval.{eval}
use Rattle.text.specs.Targets.{Target}
use Rattle.code.specs.Instructions.{instructions}
use Rattle.machine.specs.declared.Ended.{Ended}
use Rattle.machine.specs.declared.Ended.TheVariants as Ended
use Rattle.machine.specs.declared.Ran.{Ran}
use Rattle.machine.specs.Machine.{runs_at, end_of}
use Rattle.verifier.specs.Verdicts.{verdict}
use Rattle.tree_code.specs.Code.{code_of}
use Rattle.targets.specs.declared.Element.{Element}
use Rattle.targets.specs.Found.{found_to_run}
use Rattle.delivery.specs.declared.Answer.{Answer}
use Rattle.delivery.specs.declared.Answer.TheVariants.{Done, Fault, Refused}
use Rattle.operations.specs.Operations.{Destination, cell, fault, lost, Arrival, arrival, arrival_of, after_store, arrived_answer, follow_answer, follow_memory}
use Rattle.operations.specs.Operations.{Goal, to, none, index_passes, goal_of, goal, finished, memory_after, ran_answer, ran_memory, run_answer, run_memory}
use Rattle.operations.specs.Operations.{value_answer, evaluate_answer, kind_word, bits_of, given_value, given_goal_of, gave_answer, gave_memory, given_answer}
use Rattle.operations.specs.Operations.{given_memory}
use Rattle.operations.specs.Operations.{compile_target_code, stores, request, request_answer, request_memory}
use Rattle.promises.specs.Terms.{compiled_code}
use Rattle.promises.specs.Promises.{text_to_run, count_to_run}
use Rattle.promises.specs.Halves.{counted, Halves}
use Rattle.promises.proofs.Finite.{finite_code}
use Rattle.promises.proofs.Running.{desk_and_box}
use Rattle.promises.proofs.Alone.{evaluate_wrong_memory, evaluate_wrong_code, evaluates, evaluates_formula, evaluate_listed}
use Rattle.promises.proofs.Alone.{store_wrong_memory, store_bad_target, store_wrong_index, stores_given, stores_infinite}
use Rattle.values.specs.declared.Kind.{Kind}

-- ---- the counts are added

after-counted : (c n : ℕ) (v : Value) (b : Bank) (i : ℕ) (s : (Result ⊤ FaultName)) → after_store v (c + n) b i s ≡ counted c (after_store v n b i s)
after-counted c n v b i (Ok _) = refl
after-counted c n v b i (Err f) = refl

arrived-counted : (m : List ℕ) (v : Value) (c n : ℕ) (d : Destination) → arrived_answer m v (c + n) d ≡ counted c (arrived_answer m v n d)
arrived-counted m v c n (cell b i) = after-counted c n v b i (store_answer m b i v)
arrived-counted m v c n (fault f) = refl
arrived-counted m v c n lost = refl

follow-counted : (m : List ℕ) (v : Value) (c : ℕ) (a : Arrival) → follow_answer m v c a ≡ counted c (follow_answer m v 0 a)
follow-counted m v c a = by (is_finite v)
  where
    by : (t : Bool) → cond t (arrived_answer m v (c + a.count) a.destination) (Fault OutOfRange c)
        ≡ counted c (cond t (arrived_answer m v (0 + a.count) a.destination) (Fault OutOfRange 0))
    by true = rw (zero-add a.count) (arrived-counted m v c a.count a.destination)
    by false = rw (add-zero c)

-- ---- run

module _ (index m : List ℕ) (tick : ℕ) where
  -- a run that ends with d after o instructions, on a memory of the right size or not, with the verdict and the target found
  module _ (o : ℕ) (b : Bank) (e : Element) where
    either : (w v : Value) (c : ℕ) → w ≡ v → o ≡ c → (p : Bool)
        → let x : Ran = record { end = Ended.Done w; count = o } in
        (ran_answer tick index m x (cond p (to b e) (none 15)) ≡ counted c (gave_answer tick v index m (cond p (to b e) (none 15))))
        × (ran_memory tick index m x (cond p (to b e) (none 15)) ≡ gave_memory tick v index m (cond p (to b e) (none 15)))
    either w v c q r true = rw (q, r) (follow-counted m v c (arrival tick index m b e), refl)
    either w v c q r false = (refl, refl)

  gave : (d : Ended) (o : ℕ) (v : Value) (c : ℕ) (t : Bool) (u : (Option Kind)) (F : (Option (Bank × Element)))
      → let x : Ran = record { end = d; count = o } in
      cond t (value_answer x u) (Refused 1 0) ≡ Done v c X 0
      → (ran_answer tick index m x (cond t (goal_of index u F) (none 1)) ≡ counted c (gave_answer tick v index m (cond t (given_goal_of index F) (none 1))))
      × (ran_memory tick index m x (cond t (goal_of index u F) (none 1)) ≡ gave_memory tick v index m (cond t (given_goal_of index F) (none 1)))
  gave d o v c false u F q = let z : ◌≡◌ {A = ℕ} 0 1 = cc in absurd (omega arith)
  gave d o v c true None F q = let z : ◌≡◌ {A = ℕ} 0 1 = cc in absurd (omega arith)
  gave (Ended.Done w) o v c true (Some j) None q = (refl, refl)
  gave (Ended.Done w) o v c true (Some j) (Some (b, e)) q =
      let p : w ≡ v = cc in
      let r : o ≡ c = cc in
      either o b e w v c p r (index_passes index e)
  gave (Ended.Stopped f) o v c true (Some j) F q = let z : ◌≡◌ {A = ℕ} 0 1 = cc in absurd (omega arith)
  gave Ended.Stuck o v c true (Some j) F q = let z : ◌≡◌ {A = ℕ} 0 1 = cc in absurd (omega arith)

-- a fault of the first half is the run's end
stopped : (d : Ended) (o : ℕ) (f : FaultName) (c : ℕ) (t : Bool) (u : Option Kind)
    → cond t (value_answer (record { end = d; count = o }) u) (Refused 1 0) ≡ Fault f c → (d ≡ Ended.Stopped f) × (o ≡ c)
stopped d o f c false u q = let z : ◌≡◌ {A = ℕ} 0 1 = cc in absurd (omega arith)
stopped d o f c true None q = let z : ◌≡◌ {A = ℕ} 0 1 = cc in absurd (omega arith)
stopped (Ended.Done w) o f c true (Some j) q = let z : ◌≡◌ {A = ℕ} 0 1 = cc in absurd (omega arith)
stopped (Ended.Stopped g) o f c true (Some j) q = (let p : g ≡ f = cc in ap Ended.Stopped p, cc)
stopped Ended.Stuck o f c true (Some j) q = let z : ◌≡◌ {A = ℕ} 0 1 = cc in absurd (omega arith)

module _ (code target index m : List ℕ) (n k tick : ℕ) where
  abbrev x : Ran
  x = runs_at tick code n m

  gives : {v : Value} {c : ℕ} → evaluate_answer tick code n m ≡ Done v c X 0
      → (run_answer tick code n target index k m ≡ counted c (given_answer tick v target index k m))
      × (run_memory tick code n target index k m ≡ given_memory tick v target index k m)
  gives {v} {c} q = gave index m tick x.end x.count v c (eqb (length m) image_size) (verdict (instructions code n)) (found_to_run k target) q

  faults : {b : Bank} {e : Element} {f : FaultName} {c : ℕ} → goal code n target index k m ≡ to b e → evaluate_answer tick code n m ≡ Fault f c
      → (run_answer tick code n target index k m ≡ Fault f c) × (run_memory tick code n target index k m ≡ with_flag m f)
  faults {b} {e} {f} {c} g q =
      let w = stopped x.end x.count f c (eqb (length m) image_size) (verdict (instructions code n)) q in
      let a = arrival tick index m b e in
      (ap (ran_answer tick index m x) g ∙ ap₂ (finished m a) w.0 w.1, ap (ran_memory tick index m x) g ∙ ap (memory_after m a) w.0)

  -- the first half's value is proper
  ended : (d : Ended) (o : ℕ) (v : Value) (c : ℕ) (t : Bool) (u : Option Kind)
      → cond t (value_answer (record { end = d; count = o }) u) (Refused 1 0) ≡ Done v c X 0 → d ≡ Ended.Done v
  ended d o v c false u q = let z : ◌≡◌ {A = ℕ} 0 1 = cc in absurd (omega arith)
  ended d o v c true None q = let z : ◌≡◌ {A = ℕ} 0 1 = cc in absurd (omega arith)
  ended (Ended.Done w) o v c true (Some j) q = let p : w ≡ v = cc in ap Ended.Done p
  ended (Ended.Stopped g) o v c true (Some j) q = let z : ◌≡◌ {A = ℕ} 0 1 = cc in absurd (omega arith)
  ended Ended.Stuck o v c true (Some j) q = let z : ◌≡◌ {A = ℕ} 0 1 = cc in absurd (omega arith)

-- ---- a value as a kind and a pattern

reads_back : (v : Value) → Proper v → given_value (kind_word v) (bits_of v) ≡ v
reads_back v (int z h) = ap Int (pattern-laws.signed_low 32 z (lit< tt) h)
reads_back v (real x S) = ap Real (real-laws.decode_encode x S)

pub halves : Halves
halves = record {
  evaluate_wrong_memory = evaluate_wrong_memory;
  evaluate_wrong_code = evaluate_wrong_code;
  evaluates = evaluates;
  evaluates_formula = λ code m tick h a c. evaluates_formula code m tick h a c;
  evaluate_listed = evaluate_listed;
  store_wrong_memory = store_wrong_memory;
  store_bad_target = store_bad_target;
  store_wrong_index = λ v index k j tick {target} {m} ready h. store_wrong_index v target index m k tick j ready h;
  stores_given = λ v index k tick {target} {m} ready p. stores_given v target index m k tick ready p;
  stores_infinite = λ v index k tick {target} {m} ready p h. stores_infinite v target index m k tick ready p h;
  faults = λ code target index m n k tick g q. faults code target index m n k tick g q;
  gives = λ code target index m n k tick q. gives code target index m n k tick q;
  request_faults = λ target text m code index tick g t code' index' q d. (
    ap (request_answer tick m) q ∙ ap (λ d. finished m (arrival_of tick index' m g) d (runs_at tick code' (length (code_of t)) m).count) d,
    ap (request_memory tick m) q ∙ ap (memory_after m (arrival_of tick index' m g)) d,
  );
  request_gives = λ target text m code index tick g t code' index' {v} q d. (
    ap (request_answer tick m) q ∙ ap (λ d. finished m (arrival_of tick index' m g) d (runs_at tick code' (length (code_of t)) m).count) d
        ∙ follow-counted m v (runs_at tick code' (length (code_of t)) m).count (arrival_of tick index' m g),
    ap (request_memory tick m) q ∙ ap (memory_after m (arrival_of tick index' m g)) d,
  );
  request_halves = λ text code index tick {target} {m} {b} {e} {n} ready rc ri k q.
      let a = desk_and_box tick ready text code code index index rc ri ri k in
      let g = gives (compiled_code text code) (text_to_run target e) (compile_target_code index target) m n (count_to_run e) tick q in
      (sym a.answer ∙ g.0, sym a.memory ∙ g.1);
  reads_back = reads_back;
  evaluate_then_store = λ code target index m n k tick {v} {c} b h q.
      let x = runs_at tick code n m in
      let e = ended code target index m n k tick x.end x.count v c (eqb (length m) image_size) (verdict (instructions code n)) q in
      rw (reads_back v (finite_code code n tick m b h v e)) (gives code target index m n k tick q);
}
