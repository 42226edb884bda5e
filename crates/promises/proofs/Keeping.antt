-- Demand 1: every answer of every operation is one of three sorts, and what each sort leaves; and the cell that an answer names.
use Rattle.std.specs.Prelude.{Option, Some, None, Ok}
use mathlib.Core.Path.{◌≡◌, refl, ap, subst, subst⁻¹}
use mathlib.Core.Bool.{Bool, true, false, cond}
use mathlib.Core.Logic.{◌⊎◌, inl, inr, ⊎_elim}
use mathlib.Core.List.{List}
use Prim.Native.Nat.{ℕ, ◌≤◌, ◌<◌}
use native.Mathlib.Decide.{ℕ_discrete, dec_lt}
use native.Mathlib.Omega.{arith}
use lib.Dec.{T, ltb}
use lib.ListN.{length, set, length-set}
use lib.Seq.{length-sets}
use Rattle.values.specs.declared.Kind.{Kind}
use Rattle.values.specs.declared.Value.{Value}
use Rattle.values.specs.declared.Fault.{Fault as FaultName}
use Rattle.memory.specs.declared.Bank.{Bank}
use Rattle.memory.specs.Layout.{image_size, flag_at, packed, has_cell}
use Rattle.memory.specs.Store.{encode_cell}
use Rattle.memory.specs.Environment.{memory_at}
use Rattle.memory.proofs.Laws.{memory-laws, packed-laws}
use Rattle.memory.proofs.Places.{has-size, has-element}
use Rattle.text.specs.Judge.{Judgement, accepted, refused, judge}
use Rattle.text.specs.Targets.{Target, to_cell, to_indexed, no_target, target_of}
use Rattle.text.proofs.Theorems.{text-theorems}
use Rattle.code.specs.Instructions.{instructions}
use Rattle.machine.specs.declared.Ended.{Ended}
use Rattle.machine.specs.Machine.{runs_at}
use Rattle.verifier.specs.Safety.{value}
use Rattle.verifier.specs.Verdicts.{verdict}
use Rattle.verifier.proofs.Safe.{safe}
use Rattle.verifier.proofs.Verdicts.{verdict-laws}
use Rattle.compiler.specs.Compile.{coded_bytes, encode_all}
use Rattle.compiler.proofs.Theorems.{compile-theorems}
use Rattle.tree_code.specs.Code.{code_of}
use Rattle.targets.specs.declared.Element.{Element}
use Rattle.targets.specs.Found.{found_of, found_to_run, index_bytes}
use Rattle.delivery.specs.declared.Answer.{Answer}
use Rattle.delivery.specs.declared.Answer.TheVariants.{Done, Fault, Refused}
use Rattle.operations.specs.Operations.{report_of, compile_answer, verdict_answer, check_answer, target_answer, compile_target_answer, compile_target_code}
use Rattle.operations.specs.Operations.{Destination, cell}
use Rattle.operations.specs.Operations.{Arrival, arrival, arrival_of, index_passes, Goal, to, none, goal_of, goal, ran_answer, ran_memory, run_answer, run_memory}
use Rattle.operations.specs.Operations.{given_value, given_goal_of, given_goal, gave_answer, gave_memory}
use Rattle.operations.specs.Operations.{Request, of_target, of_text, request, request_answer, request_memory, request_code, request_index}
use Rattle.operations.proofs.Verdicts as run
use Rattle.operations.proofs.Giving as given
use Rattle.operations.proofs.Requests.{kinded, no-memory, no_room, no-index-room, named}
use Rattle.promises.specs.Terms.{compile_answer_of, compiled_code, answer_number, Refusal, Names, SameBut, StoredOrFault, stored, unstored}
use Rattle.promises.specs.Terms.{no_element, infinite, stopped}
use Rattle.promises.specs.Promises.{Operation, compile, compile-target, check, run, compile-and-run, store, result_of, FrameConditions}
use Rattle.promises.proofs.Numbers.{either, Numbered, formula, three-to-nine, numbered, fault-range, no-fault, own-number}
use Rattle.promises.proofs.Endings.{run_sound, target_sound, ends-well, gives, names-run, names-target}

-- a number put into a cell
put_only : (m : List ℕ) (b : Bank) (i p : ℕ) (v : Value) → T (has_cell m b i) → encode_cell b v ≡ Ok p → SameBut b i m (packed.put m b i p)
put_only m b i p v h e =
    let size = has-size packed m b i h in
    let there = has-element packed m b i h in
    record {
      cells = λ c j l d. packed-laws.get_other m b i p c j size there l (memory-laws.holdable b v p e) d;
      flags = λ f. packed-laws.flag_put m b i p f size there;
    }

-- W says what the cell is that a store names
data Sorted (W : Bank → ℕ → Type 0) (m code index : List ℕ) : Answer → List ℕ → List ℕ → List ℕ → Type 0 where
  done : {v : Value} {n : ℕ} {b : Bank} {i : ℕ} {m' code' index' : List ℕ} → SameBut b i m m' → W b i
      → length m' ≡ length m → length code' ≡ length code → length index' ≡ length index → Sorted W m code index (Done v n b i) m' code' index'
  fault : {f : FaultName} {n : ℕ} {code' index' : List ℕ} → length code' ≡ length code → length index' ≡ length index
      → Sorted W m code index (Fault f n) (set m (flag_at f) 1) code' index'
  refusal : (a p : ℕ) → Refusal a → Sorted W m code index (Refused a p) m code index

-- ---- each sort keeps demand 1

small : (a : ℕ) → Refusal a → a ≤ 15
small a (l, h) = ⊎_elim (λ l. omega arith) (λ l. omega arith) h

module _ {W : Bank → ℕ → Type 0} {m code index : List ℕ} where
  keeps : {r : Answer} {m' code' index' : List ℕ} → Sorted W m code index r m' code' index'
      → FrameConditions m code index (record { answer = r; memory = m'; code = code'; index = index' })
  keeps (done h x l w i) = record {
    listed = omega arith;
    refused = λ x. absurd (omega arith);
    fault = λ f e. absurd (no-fault f (inl (omega arith)) e);
    done = λ e. h;
    sizes = (l, (w, i));
  }
  keeps (fault {f} w i) = record {
    listed = omega (arith, fault-range f);
    refused = λ x. absurd (no-fault f x.1 refl);
    fault = λ g e. ap (λ f. set m (flag_at f) 1) (own-number f g e);
    done = λ e. absurd (omega (arith, fault-range f));
    sizes = (length-set m (flag_at f) 1, (w, i));
  }
  keeps (refusal a p h) = record {
    listed = small a h;
    refused = λ x. (refl, (refl, refl));
    fault = λ f e. absurd (no-fault f h.1 e);
    done = λ e. absurd (omega arith);
    sizes = (refl, (refl, refl));
  }

  -- and names its cell
  names : {r : Answer} {m' code' index' : List ℕ} → Sorted W m code index r m' code' index' → answer_number r ≡ 0 → W (report_of r).bank (report_of r).element
  names (done h x l w i) e = x
  names (fault {f} w i) e = absurd (omega (arith, fault-range f))
  names (refusal a p h) e = absurd (omega arith)

-- ---- each operation's answer is of a sort

abbrev AnyCell : Bank → ℕ → Type 0
AnyCell b i = Unit {0}

module _ (m code index : List ℕ) where
  module _ {W : Bank → ℕ → Type 0} where
    low : (a p : ℕ) → 1 ≤ a → a ≤ 10 → Sorted W m code index (Refused a p) m code index
    low a p l h = refusal a p (l, inl h)

    -- after a run that ends well
    sorted-end : {n : ℕ} {a : Arrival} {e : Ended} {r : Answer} {m' code' index' : List ℕ} → ((b : Bank) (i : ℕ) → a.destination ≡ cell b i → W b i)
        → length code' ≡ length code → length index' ≡ length index → StoredOrFault m n a e r m' → Sorted W m code index r m' code' index'
    sorted-end g w x (stored {v = v} {b = b} {i = i} {p = p} q h e) = done (put_only m b i p v h e) (g b i q) (packed-laws.put_length m b i p) w x
    sorted-end g w x (unstored h q e) = fault w x
    sorted-end g w x (no_element h q) = fault w x
    sorted-end g w x (infinite h) = fault w x
    sorted-end g w x stopped = fault w x

  coded-length : (c : List ℕ) (j : Judgement) → length (coded_bytes c j) ≡ length c
  coded-length c (accepted t) = length-sets c 0 (encode_all (code_of t))
  coded-length c (refused a p) = refl

  index-length : (g : Target) → length (index_bytes index g) ≡ length index
  index-length (to_cell b i) = refl
  index-length (to_indexed b t) = coded-length index (accepted t)
  index-length no_target = refl

  sorted-judged : {W : Bank → ℕ → Type 0} {j : Judgement} → ((b : Bank) (i : ℕ) → W b i) → Numbered j
      → Sorted W m code index (compile_answer j) m (coded_bytes code j) index
  sorted-judged {j = j} x formula = done (record { cells = λ c j l d. refl; flags = λ f. refl }) (x _ _) refl (coded-length code j) refl
  sorted-judged x (three-to-nine a p l h) = low a p (omega arith) (omega arith)

  sorted-compile : (text : List ℕ) → Sorted AnyCell m code index (compile_answer_of text code) m (compiled_code text code) index
  sorted-compile text =
      either (λ j. Sorted AnyCell m code index (compile_answer j) m (coded_bytes code j) index) (ltb (length code) 16384)
      (low 10 0 (omega arith) (omega arith))
      (sorted-judged (λ b i. tt) (numbered (text-theorems.outcome text)))

  sorted-compile-target : (target : List ℕ) → Sorted AnyCell m code index (compile_target_answer index target) m code (compile_target_code index target)
  sorted-compile-target target = by (ltb (length index) 16384) (target_of target)
    where
      by : (t : Bool) (g : Target) → Sorted AnyCell m code index (cond t (Refused 10 0) (target_answer g)) m code (cond t index (index_bytes index g))
      by true g = low 10 0 (omega arith) (omega arith)
      by false (to_cell b i) = done (record { cells = λ c j l d. refl; flags = λ f. refl }) tt refl refl refl
      by false (to_indexed b t) = done (record { cells = λ c j l d. refl; flags = λ f. refl }) tt refl refl (index-length (to_indexed b t))
      by false no_target = low 2 0 (omega arith) (omega arith)

  sorted-check : (n : ℕ) → Sorted AnyCell m code index (check_answer code n) m code index
  sorted-check n = by (verdict (instructions code n))
    where
      by : (v : Option Kind) → Sorted AnyCell m code index (verdict_answer v) m code index
      by (Some k) = done (record { cells = λ c j l d. refl; flags = λ f. refl }) tt refl refl refl
      by None = refusal 15 0 (omega arith, inr refl)

  module _ (target : List ℕ) (n k tick : ℕ) where
    abbrev Ran : Goal → Type 0
    Ran g =
        let x = runs_at tick code n m in
        Sorted (Names (found_to_run k target)) m code index (ran_answer tick index m x g) (ran_memory tick index m x g) code index

    sorted-goal : length m ≡ image_size → (v : Option Kind) → verdict (instructions code n) ≡ v → (x : (Option (Bank × Element))) → found_to_run k target ≡ x → Ran (goal_of index v x)
    sorted-goal h v q None f = low 2 0 (omega arith) (omega arith)
    sorted-goal h None q (Some (b, e)) f = refusal 15 0 (omega arith, inr refl)
    sorted-goal h (Some j) q (Some (b, e)) f = by (index_passes index e) refl
      where
        by : (p : Bool) → index_passes index e ≡ p → Ran (cond p (to b e) (none 15))
        by true p =
            let w = safe.ends (memory_at tick m) (instructions code n) j (kinded tick m) ((verdict-laws.exact (instructions code n) j).0 q) in
            sorted-end (λ c i d. subst⁻¹ (λ x. Names x c i) f (names-run tick index m b e d)) refl refl
            (gives m h _ (arrival tick index m b e) (run_sound k target tick index m e f p) w)
        by false p = refusal 15 0 (omega arith, inr refl)

    sorted-run : Ran (goal code n target index k m)
    sorted-run = by (ℕ_discrete (length m) image_size)
      where
        by : Dec (length m ≡ image_size) → Ran (goal code n target index k m)
        by (yes h) = subst⁻¹ Ran (run.named code n target index k m h refl refl) (sorted-goal h (verdict (instructions code n)) refl (found_to_run k target) refl)
        by (no h) = subst⁻¹ Ran (run.no-memory code n target index k m h) (low 1 0 (omega arith) (omega arith))

  -- ---- store

  module _ (target : List ℕ) (v : Value) (k tick : ℕ) where
    abbrev Gave : Goal → Type 0
    Gave g = Sorted (Names (found_to_run k target)) m code index (gave_answer tick v index m g) (gave_memory tick v index m g) code index

    sorted-found : length m ≡ image_size → (x : (Option (Bank × Element))) → found_to_run k target ≡ x → Gave (given_goal_of index x)
    sorted-found h None f = low 2 0 (omega arith) (omega arith)
    sorted-found h (Some (b, e)) f = by (index_passes index e) refl
      where
        by : (p : Bool) → index_passes index e ≡ p → Gave (cond p (to b e) (none 15))
        by true p =
            sorted-end (λ c i d. subst⁻¹ (λ x. Names x c i) f (names-run tick index m b e d)) refl refl
            (gives m h 0 (arrival tick index m b e) (run_sound k target tick index m e f p) (value v refl))
        by false p = refusal 15 0 (omega arith, inr refl)

    sorted-store : Gave (given_goal target index k m)
    sorted-store = by (ℕ_discrete (length m) image_size)
      where
        by : Dec (length m ≡ image_size) → Gave (given_goal target index k m)
        by (yes h) = subst⁻¹ Gave (given.found tick v target index k m h refl) (sorted-found h (found_to_run k target) refl)
        by (no h) = subst⁻¹ Gave (given.no-image tick v target index k m h) (low 1 0 (omega arith) (omega arith))

  -- ---- compile and run

  module _ (target text : List ℕ) (tick : ℕ) where
    abbrev Performs : Request → Type 0
    Performs q = Sorted (Names (found_of (target_of target))) m code index (request_answer tick m q) (request_memory tick m q) (request_code code q)
        (request_index index q)

    sorted-text : {b : Bank} {e : Element} → length m ≡ image_size → (g : Target) → target_of target ≡ g → found_of g ≡ Some (b, e) → (j : Judgement) → judge text ≡ j
        → Performs (of_text code index g j)
    sorted-text l g q f (accepted t) r =
        let kind = (compile-theorems.demand text t r).kind (memory_at tick m) (kinded tick m) in
        sorted-end (λ c i d. subst⁻¹ (λ x. Names (found_of x) c i) q (names-target tick m g d)) (coded-length code (accepted t)) (index-length g)
        (gives m l _ (arrival_of tick (index_bytes index g) m g) (target_sound target tick m g q f) (ends-well kind))
    sorted-text l g q f (refused a p) r = of (subst Numbered r (numbered (text-theorems.outcome text)))
      where
        of : Numbered (refused a p) → Performs (of_text code index g (refused a p))
        of (three-to-nine a p l h) = low a p (omega arith) (omega arith)

    sorted-target : length m ≡ image_size → (g : Target) → target_of target ≡ g → Performs (of_target text code index g)
    sorted-target l (to_cell b i) q = sorted-text l (to_cell b i) q refl (judge text) refl
    sorted-target l (to_indexed b t) q = sorted-text l (to_indexed b t) q refl (judge text) refl
    sorted-target l no_target q = low 2 0 (omega arith) (omega arith)

    sorted-request : Performs (request target text m code index)
    sorted-request = by (ℕ_discrete (length m) image_size) (dec_lt (length code) 16384) (dec_lt (length index) 16384)
      where
        by : Dec (length m ≡ image_size) → Dec (length code < 16384) → Dec (length index < 16384) → Performs (request target text m code index)
        by (no h) d i = subst⁻¹ Performs (no-memory target text m code index h) (low 1 0 (omega arith) (omega arith))
        by (yes h) (yes l) i = subst⁻¹ Performs (no_room target text m code index h l) (low 10 0 (omega arith) (omega arith))
        by (yes h) (no l) (yes i) = subst⁻¹ Performs (no-index-room target text m code index h (omega arith) i) (low 10 0 (omega arith) (omega arith))
        by (yes h) (no l) (no i) = subst⁻¹ Performs (named target text m code index h (omega arith) (omega arith) refl) (sorted-target h (target_of target) refl)

pub kept : (o : Operation) (target m code index : List ℕ) → FrameConditions m code index (result_of o target m code index)
kept (compile text) target m code index = keeps (sorted-compile m code index text)
kept compile-target target m code index = keeps (sorted-compile-target m code index target)
kept (check n) target m code index = keeps (sorted-check m code index n)
kept (run n k tick) target m code index = keeps (sorted-run m code index target n k tick)
kept (compile-and-run text tick) target m code index = keeps (sorted-request m code index target text tick)
kept (store kind bits k tick) target m code index = keeps (sorted-store m code index target (given_value kind bits) k tick)

pub runs_to : (code index target m : List ℕ) (n k tick : ℕ) → let x = result_of (run n k tick) target m code index in
    answer_number x.answer ≡ 0 → Names (found_to_run k target) (report_of x.answer).bank (report_of x.answer).element
runs_to code index target m n k tick = names (sorted-run m code index target n k tick)

pub given_to : (code index target m : List ℕ) (kind bits k tick : ℕ) → let x = result_of (store kind bits k tick) target m code index in
    answer_number x.answer ≡ 0 → Names (found_to_run k target) (report_of x.answer).bank (report_of x.answer).element
given_to code index target m kind bits k tick = names (sorted-store m code index target (given_value kind bits) k tick)

pub stores_to : (text code index target m : List ℕ) (tick : ℕ) → let x = result_of (compile-and-run text tick) target m code index in
    answer_number x.answer ≡ 0 → Names (found_of (target_of target)) (report_of x.answer).bank (report_of x.answer).element
stores_to text code index target m tick = names (sorted-request m code index target text tick)
