-- Each half for itself: the refusals of evaluate and of store, and what they answer where none holds.
use Rattle.std.specs.Prelude.{Option, Some, None}
use mathlib.Core.Path.{◌≡◌, refl, sym, ap, subst, subst⁻¹}
use mathlib.Core.Bool.{true, false}
use mathlib.Core.List.{List}
use Prim.Native.Nat.{ℕ, ◌≤◌}
use native.Mathlib.Decide.{ℕ_discrete}
use native.Mathlib.Omega.{arith}
use lib.ListN.{length, set}
use Rattle.values.specs.declared.Kind.{Kind}
use Rattle.values.specs.declared.Value.{Value}
use Rattle.values.specs.declared.Fault.TheVariants.{OutOfRange}
use Rattle.memory.specs.declared.Bank.{Bank}
use Rattle.memory.specs.Layout.{image_size, flag_at}
use Rattle.memory.specs.Store.{is_finite}
use Rattle.memory.specs.Environment.{memory_at}
use Rattle.grammar.specs.Tree.{Tree}
use Rattle.grammar.specs.Eval.{eval}
use Rattle.text.specs.Theorems.{AcceptedFormula}
use Rattle.code.specs.Instructions.{instructions}
use Rattle.machine.specs.declared.Ended.{Ended}
use Rattle.machine.specs.declared.Ended.TheVariants as Ended
use Rattle.machine.specs.declared.Ran.{Ran}
use Rattle.machine.specs.Machine.{runs_at, end_of}
use Rattle.verifier.specs.Accepts.{Accepts}
use Rattle.verifier.specs.Safety.{EndsWell}
use Rattle.verifier.specs.Safety as EndsWell
use Rattle.verifier.specs.Verdicts.{verdict}
use Rattle.verifier.proofs.Safe.{safe}
use Rattle.verifier.proofs.Verdicts.{verdict-laws}
use Rattle.targets.specs.declared.Element.{Element}
use Rattle.targets.specs.declared.Element.TheVariants.{By}
use Rattle.targets.specs.Found.{found_to_run}
use Rattle.delivery.specs.declared.Answer.{Answer}
use Rattle.delivery.specs.declared.Answer.TheVariants.{Fault, Refused}
use Rattle.operations.specs.Operations.{done_with, verdict_answer, check_answer, arrival, to, is_accepted, index_passes, value_answer, evaluate_answer}
use Rattle.operations.specs.Operations.{given_goal, gave_answer, gave_memory, given_answer, given_memory}
use Rattle.operations.proofs.Verdicts.{accepted-by}
use Rattle.operations.proofs.Requests.{kinded}
use Rattle.operations.proofs.Giving as given
use Rattle.promises.specs.Terms.{compile_answer_of, compiled_code, answer_number, ReadyToRun, StoredOrFault}
use Rattle.promises.specs.Halves.{ValueOrFault, value, fault}
use Rattle.promises.proofs.Numbers.{fault-range}
use Rattle.promises.proofs.Order.{refused}
use Rattle.promises.proofs.Endings.{run_sound, flag, gives}
use Rattle.promises.proofs.Codes.{faithful}

-- ---- evaluate

of_end : {k : Kind} {e : Ended} (n : ℕ) → EndsWell k e → ValueOrFault e n (value_answer (record { end = e; count = n }) (Some k))
of_end n (EndsWell.value v q) = value
of_end n (EndsWell.fault f) = fault

listed : {e : Ended} {n : ℕ} {r : Answer} → ValueOrFault e n r → answer_number r ≤ 15
listed value = omega arith
listed (fault {f}) = omega (arith, fault-range f)

module _ (code m : List ℕ) (n tick : ℕ) where
  pub evaluate_wrong_memory : (length m ≡ image_size → ⊥) → evaluate_answer tick code n m ≡ Refused 1 0
  evaluate_wrong_memory h = sym (given.no-memory tick code n m h)

  pub evaluate_wrong_code : length m ≡ image_size → ((j : Kind) → Accepts (instructions code n) j → ⊥) → evaluate_answer tick code n m ≡ Refused 15 0
  evaluate_wrong_code h a = sym (given.evaluates tick code n m h (refused code n a) refl refl)

  pub evaluates : length m ≡ image_size → check_answer code n ≡ done_with 0
      → ValueOrFault (runs_at tick code n m).end (runs_at tick code n m).count (evaluate_answer tick code n m)
  evaluates h c =
      let x = runs_at tick code n m in
      let a = accepted-by code n c in
      let v = (verdict-laws.exact (instructions code n) a.0).1 a.1 in
      let w = safe.ends (memory_at tick m) (instructions code n) a.0 (kinded tick m) a.1 in
      subst (ValueOrFault x.end x.count) (given.evaluates tick code n m h v refl refl) (of_end x.count w)

  pub evaluate_listed : answer_number (evaluate_answer tick code n m) ≤ 15
  evaluate_listed = by (ℕ_discrete (length m) image_size)
    where
      of : length m ≡ image_size → (v : Option Kind) → verdict (instructions code n) ≡ v → answer_number (evaluate_answer tick code n m) ≤ 15
      of h (Some k) q = listed (evaluates h (ap verdict_answer q))
      of h None q = subst (λ r. answer_number r ≤ 15) (given.evaluates tick code n m h q refl refl) (omega arith)

      by : Dec (length m ≡ image_size) → answer_number (evaluate_answer tick code n m) ≤ 15
      by (yes h) = of h (verdict (instructions code n)) refl
      by (no h) = subst (λ r. answer_number r ≤ 15) (given.no-memory tick code n m h) (omega arith)

pub evaluates_formula : {text : List ℕ} {t : Tree} {n : ℕ} (code m : List ℕ) (tick : ℕ) → length m ≡ image_size → AcceptedFormula text t
    → compile_answer_of text code ≡ done_with n
    → let written = compiled_code text code in
    ValueOrFault (end_of (eval (memory_at tick m) t)) (runs_at tick written n m).count (evaluate_answer tick written n m)
evaluates_formula {text} {t} {n} code m tick h a c =
    let written = compiled_code text code in
    let kept = faithful code a c in
    subst (λ d. ValueOrFault d (runs_at tick written n m).count (evaluate_answer tick written n m)) (kept.same tick m)
    (evaluates written m n tick h kept.accepted)

-- ---- store

module _ (v : Value) (target index m : List ℕ) (k tick : ℕ) where
  pub store_wrong_memory : (length m ≡ image_size → ⊥) → given_answer tick v target index k m ≡ Refused 1 0
  store_wrong_memory h = ap (gave_answer tick v index m) (given.no-image tick v target index k m h)

  pub store_bad_target : length m ≡ image_size → found_to_run k target ≡ None → given_answer tick v target index k m ≡ Refused 2 0
  store_bad_target h e = ap (gave_answer tick v index m) (given.found tick v target index k m h e)

  pub store_wrong_index : {b : Bank} (j : ℕ) → ReadyToRun k target m b (By j) → ((i : Kind) → Accepts (instructions index j) i → ⊥)
      → given_answer tick v target index k m ≡ Refused 15 0
  store_wrong_index j ready h =
      ap (gave_answer tick v index m) (given.aims tick v target index k m ready.memory ready.goal (ap is_accepted (refused index j h)))

  module _ {b : Bank} {e : Element} (ready : ReadyToRun k target m b e) (passes : index_passes index e ≡ true) where
    aims : given_goal target index k m ≡ to b e
    aims = given.aims tick v target index k m ready.memory ready.goal passes

    pub stores_given : StoredOrFault m 0 (arrival tick index m b e) (Ended.Done v) (given_answer tick v target index k m) (given_memory tick v target index k m)
    stores_given =
        subst⁻¹ (λ g. StoredOrFault m 0 (arrival tick index m b e) (Ended.Done v) (gave_answer tick v index m g) (gave_memory tick v index m g)) aims
        (gives m ready.memory 0 (arrival tick index m b e) (run_sound k target tick index m e ready.goal passes) (EndsWell.value v refl))

    pub stores_infinite : is_finite v ≡ false
        → (given_answer tick v target index k m ≡ Fault OutOfRange 0) × (given_memory tick v target index k m ≡ set m (flag_at OutOfRange) 1)
    stores_infinite h = rw (aims, h) (refl, flag m ready.memory OutOfRange)
