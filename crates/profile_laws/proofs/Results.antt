-- The result of each operation: in the full box, in the profile, and what demand 1 says of the profile's.
use Rattle.std.specs.Prelude.{Option, Some}
use mathlib.Core.Path.{◌≡◌, refl, sym, ap, ◌∙◌, subst}
use mathlib.Core.Logic.{◌⊎◌, inl, inr}
use mathlib.Core.Bool.{Bool, true, false, cond}
use mathlib.Core.List.{List}
use Prim.Native.Nat.{ℕ, ◌≤◌}
use native.Mathlib.Omega.{arith}
use lib.Dec.{eqb, ltb}
use lib.ListN.{length}
use Rattle.values.specs.declared.Kind.TheVariants as K
use Rattle.values.specs.declared.Value.{Value}
use Rattle.values.specs.declared.Value.TheVariants.{Int, Real}
use Rattle.values.specs.declared.Fault.{Fault}
use Rattle.values.specs.Values.{fault_number}
use Rattle.memory.specs.Layout.{image_size}
use Rattle.text.specs.Judge.{Judgement}
use Rattle.text.specs.Targets.{Target, target_of}
use Rattle.code.specs.declared.Instr.{Instr}
use Rattle.code.specs.Instructions.{instructions}
use Rattle.machine.specs.declared.Ran.{Ran}
use Rattle.machine.specs.Machine.{runs_at}
use Rattle.machine.specs.Profile.{runs_in}
use Rattle.compiler.specs.Compile.{coded_bytes}
use Rattle.targets.specs.Found.{index_bytes}
use Rattle.delivery.specs.declared.Answer.{Answer}
use Rattle.delivery.specs.declared.Answer.TheVariants.{Refused}
use Rattle.operations.specs.Operations.{compile_answer, verdict_answer, target_answer, Goal, value_answer, evaluate_answer, given_value, gave_answer}
use Rattle.operations.specs.Operations.{gave_memory}
use Rattle.operations.specs.Operations.{Request, request_answer, request_memory, request_code, request_index}
use Rattle.operations.proofs.Full.{full-compiling, full-check, full-run, full-run-memory, full-store, full-store-memory, full-request}
use Rattle.promises.specs.Terms.{answer_number, Refusal}
use Rattle.promises.specs.Promises.{Operation, compile, compile-target, check, run, compile-and-run, store, OperationResult, FrameConditions, result_of}
use Rattle.promises.proofs.Promises.{promises}
use Rattle.promises.proofs.Halves.{halves}
use Rattle.profile.specs.Parts.{real_value}
use Rattle.operations.specs.Profile.{gave_answer_for, gave_memory_for, evaluate_answer_for}
use Rattle.promises.proofs.Numbers.{fault-range}
use Rattle.profile_laws.specs.Results.{result_for, OfProfile, Profiled, as_full, refuses, ProfileFrame}
use Rattle.profile_laws.proofs.Verdicts.{BothChecks, passes, fails, both-checks, same_runs}
use Rattle.profile_laws.proofs.Goals.{two, fifteen, nineteen, Goals, both_stop, stops-alone, both_go, run-goals, store-goals, Alike, same}
use Rattle.profile_laws.proofs.Goals.{alone, ran-alike, gave-alike}
use Rattle.profile_laws.proofs.Asked.{Judgements, one-judgement, real-found, both-compile, Targets, one-target, none-taken, both-target}
use Rattle.profile_laws.proofs.Asked.{Requests, one-request, stops-before, both-requests}
use Rattle.values.specs.declared.Kind.{Kind}

-- the memory and the answer alone
abbrev leaves : List ℕ → List ℕ → Answer → List ℕ → OperationResult
leaves code index a m = record { answer = a; memory = m; code = code; index = index }

leaves-same : (code index : List ℕ) {a b : Answer} {m n : List ℕ} → a ≡ b → m ≡ n → leaves code index a m ≡ leaves code index b n
leaves-same code index {a} {b} {m} {n} e f = ap (λ (x : Answer). leaves code index x m) e ∙ ap (leaves code index b) f

-- ---- with reals

abbrev compiles : List ℕ → List ℕ → List ℕ → Judgement → OperationResult
compiles m code index j = record { answer = compile_answer j; memory = m; code = coded_bytes code j; index = index }

abbrev pub performs : ℕ → List ℕ → List ℕ → List ℕ → Request → OperationResult
performs tick m code index q =
    record { answer = request_answer tick m q; memory = request_memory tick m q; code = request_code code q; index = request_index index q }

pub full : (o : Operation) (target m code index : List ℕ) → result_for true o target m code index ≡ result_of o target m code index
full (compile text) target m code index = ap (compiles m code index) (full-compiling (length code) text)
full compile-target target m code index = refl
full (check n) target m code index = ap (λ (a : Answer). leaves code index a m) (full-check code n)
full (run n k tick) target m code index = leaves-same code index (full-run tick target index m k code n) (full-run-memory tick target index m k code n)
full (compile-and-run text tick) target m code index = ap (performs tick m code index) (full-request text code index target m)
full (store kind bits k tick) target m code index =
    leaves-same code index (full-store tick target index m k (given_value kind bits)) (full-store-memory tick target index m k (given_value kind bits))

-- ---- without reals

module _ (m code index : List ℕ) where
  of-compile : {j k : Judgement} → Judgements j k → Profiled m code index (compiles m code index j) (compiles m code index k)
  of-compile (one-judgement j) = as_full refl
  of-compile (real-found p k) = refuses 19 p nineteen refl

  -- what compile_target leaves, where b says that the buffer is short
  abbrev aims : Bool → Target → OperationResult
  aims b g = record { answer = cond b (Refused 10 0) (target_answer g); memory = m; code = code; index = cond b index (index_bytes index g) }

  of-target : (b : Bool) {g h : Target} → Targets g h → Profiled m code index (aims b g) (aims b h)
  of-target b (one-target g) = as_full refl
  of-target true (none-taken g) = as_full refl
  of-target false (none-taken g) = refuses 2 0 two refl

  of-check : {c : List Instr} {v w : (Option Kind)} → BothChecks c v w
      → Profiled m code index (leaves code index (verdict_answer v) m) (leaves code index (verdict_answer w) m)
  of-check (passes a) = as_full refl
  of-check (fails w) = refuses 15 0 fifteen refl

  of-alike : {g : Goal} {a a' : Answer} {n n' : List ℕ} → Alike m g a a' n n' → Profiled m code index (leaves code index a n) (leaves code index a' n')
  of-alike (same e f) = as_full (leaves-same code index e f)
  of-alike (alone r o i e f) = refuses r 0 o (leaves-same code index e f)

  of-request : (text : List ℕ) (tick : ℕ) {q r : Request} → Requests text m code index q r
      → Profiled m code index (performs tick m code index q) (performs tick m code index r)
  of-request text tick (one-request q) = as_full refl
  of-request text tick (stops-before a p r o) = refuses a p o refl

  -- a real that is given is refused wherever its goal is good
  of-real : (tick : ℕ) (v : Value) → real_value v ≡ true → {g h : Goal} → Goals index (Unit {0}) g h
      → Profiled m code index (leaves code index (gave_answer_for false tick v index m g) (gave_memory_for false tick v index m g))
      (leaves code index (gave_answer tick v index m h) (gave_memory tick v index m h))
  of-real tick v e (both_stop a) = as_full refl
  of-real tick v e (stops-alone a h o) = refuses a 0 o refl
  of-real tick v e (both_go b f p i) = refuses 19 0 nineteen (leaves-same code index (rw e refl) (rw e refl))

  of-store : (tick : ℕ) (v : Value) {g h : Goal} → Goals index (Unit {0}) g h
      → Profiled m code index (leaves code index (gave_answer_for false tick v index m g) (gave_memory_for false tick v index m g))
      (leaves code index (gave_answer tick v index m h) (gave_memory tick v index m h))
  of-store tick (Int z) x = of-alike (gave-alike tick index m z x)
  of-store tick (Real y) x = of-real tick (Real y) refl x

pub either : (o : Operation) (target m code index : List ℕ) → Profiled m code index (result_for false o target m code index) (result_of o target m code index)
either (compile text) target m code index = of-compile m code index (both-compile (length code) text)
either compile-target target m code index = of-target m code index (ltb (length index) 16384) (both-target (target_of target))
either (check n) target m code index = of-check m code index (both-checks (instructions code n))
either (run n k tick) target m code index = of-alike m code index (ran-alike tick index m code n (run-goals index code target m n k))
either (compile-and-run text tick) target m code index = of-request m code index text tick (both-requests text m code index target)
either (store kind bits k tick) target m code index = of-store m code index tick (given_value kind bits) (store-goals index target m k)

pub either_evaluate : (code m : List ℕ) (n tick : ℕ)
    → (evaluate_answer_for false tick code n m ≡ evaluate_answer tick code n m) ⊎ (evaluate_answer_for false tick code n m ≡ Refused 15 0)
either_evaluate code m n tick = by (eqb (length m) image_size) (both-checks (instructions code n))
  where
    by : (b : Bool) {v w : (Option Kind)} → BothChecks (instructions code n) v w
        → (cond b (value_answer (runs_in false tick code n m) v) (Refused 1 0) ≡ cond b (value_answer (runs_at tick code n m) w) (Refused 1 0))
        ⊎ (cond b (value_answer (runs_in false tick code n m) v) (Refused 1 0) ≡ Refused 15 0)
    by false h = inl refl
    by true (passes a) = inl (ap (λ (x : Ran). value_answer x (Some K.Int)) (same_runs tick code n m a))
    by true (fails w) = inr refl

-- ---- demand 1

pub never_19 : (o : Operation) (target m code index : List ℕ) → answer_number (result_of o target m code index).answer ≡ 19 → ⊥
never_19 o target m code index e = let l = (promises.keeps o target m code index).listed in omega (arith, l, e)

pub never_19_evaluate : (code m : List ℕ) (n tick : ℕ) → answer_number (evaluate_answer tick code n m) ≡ 19 → ⊥
never_19_evaluate code m n tick e = let l = halves.evaluate_listed code m n tick in omega (arith, l, e)

module _ (m code index : List ℕ) where
  of-full : {x : OperationResult} → FrameConditions m code index x → ProfileFrame m code index x
  of-full {x} f = record { listed = inl f.listed; refused = by; fault = f.fault; done = f.done; sizes = f.sizes }
    where
      by : Refusal (answer_number x.answer) ⊎ (answer_number x.answer ≡ 19) → (x.memory ≡ m) × ((x.code ≡ code) × (x.index ≡ index))
      by (inl r) = f.refused r
      by (inr e) = absurd (let l = f.listed in omega (arith, l, e))

  in_list : {a : ℕ} → OfProfile a → (a ≤ 15) ⊎ (a ≡ 19)
  in_list (inl e) = inl (omega (arith, e))
  in_list (inr (inl e)) = inl (omega (arith, e))
  in_list (inr (inr e)) = inr e

  not_done : {A : Type 0} {a : ℕ} → OfProfile a → a ≡ 0 → A
  not_done (inl e) i = absurd (omega (arith, e, i))
  not_done (inr (inl e)) i = absurd (omega (arith, e, i))
  not_done (inr (inr e)) i = absurd (omega (arith, e, i))

  not-fault : {A : Type 0} {a : ℕ} (f : Fault) → OfProfile a → a ≡ fault_number f → A
  not-fault f (inl e) i = let h = fault-range f in absurd (omega (arith, h.0, e, i))
  not-fault f (inr (inl e)) i = let h = fault-range f in absurd (omega (arith, h.1, e, i))
  not-fault f (inr (inr e)) i = let h = fault-range f in absurd (omega (arith, h.1, e, i))

  of-refusal : (a p : ℕ) → OfProfile a → ProfileFrame m code index (leaves code index (Refused a p) m)
  of-refusal a p o =
      record {
        listed = in_list o;
        refused = λ r. (refl, (refl, refl));
        fault = λ f e. not-fault f o e;
        done = λ e. not_done o e;
        sizes = (refl, (refl, refl));
      }

  of-profiled : {x y : OperationResult} → FrameConditions m code index y → Profiled m code index x y → ProfileFrame m code index x
  of-profiled f (as_full e) = subst (ProfileFrame m code index) (sym e) (of-full f)
  of-profiled f (refuses a p o e) = subst (ProfileFrame m code index) (sym e) (of-refusal a p o)

pub keeps : (o : Operation) (target m code index : List ℕ) → ProfileFrame m code index (result_for false o target m code index)
keeps o target m code index = of-profiled m code index (promises.keeps o target m code index) (either o target m code index)
