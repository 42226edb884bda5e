-- Run and store: where both have a goal it is one, and what they do there is the same.
use Rattle.std.specs.Prelude.{Option, Some, None}
use mathlib.Core.Path.{◌≡◌, refl, sym, ap, ◌∙◌, subst}
use mathlib.Core.Logic.{inl, inr}
use mathlib.Core.Bool.{Bool, true, false, cond}
use mathlib.Core.List.{List}
use Prim.Native.Nat.{ℕ}
use native.Mathlib.Omega.{arith}
use lib.Dec.{eqb}
use lib.IntN.{ℤ}
use lib.ListN.{length}
use Rattle.values.specs.declared.Kind.TheVariants as K
use Rattle.values.specs.declared.Value.TheVariants as V'
use Rattle.memory.specs.declared.Bank.{Bank}
use Rattle.memory.specs.Layout.{image_size}
use Rattle.code.specs.declared.Instr.{Instr}
use Rattle.code.specs.Instructions.{instructions}
use Rattle.machine.specs.declared.Ran.{Ran}
use Rattle.machine.specs.Machine.{runs_at}
use Rattle.machine.specs.Profile.{runs_in}
use Rattle.targets.specs.declared.Element.{Element}
use Rattle.targets.specs.declared.Element.TheVariants.{Is, By}
use Rattle.targets.specs.Found.{found_to_run, taken_found, run_target_in}
use Rattle.delivery.specs.declared.Answer.{Answer}
use Rattle.delivery.specs.declared.Answer.TheVariants.{Refused}
use Rattle.operations.specs.Operations.{Arrival, Goal, to, none, is_accepted, given_goal_of, goal_of, goal, given_goal, arrival}
use Rattle.operations.specs.Operations.{finished, memory_after, follow_answer, follow_memory, ran_answer, ran_memory, gave_answer, gave_memory}
use Rattle.profile.specs.Parts.{real_bank}
use Rattle.verifier.specs.Profile.{AcceptsIn, verdict_in}
use Rattle.verifier.proofs.Profile.{profile-verdicts}
use Rattle.operations.specs.Profile.{arrival_for, given_goal_of_for, goal_of_for, goal_for, given_goal_for, ran_answer_for, ran_memory_for, gave_answer_for}
use Rattle.operations.specs.Profile.{gave_memory_for}
use Rattle.operations.proofs.Full.{arrival-same}
use Rattle.profile_laws.specs.Results.{OfProfile}
use Rattle.profile_laws.specs.Theorems.{IntegerCode, IntegerIndex}
use Rattle.profile_laws.proofs.Verdicts.{BothChecks, passes, fails, both-checks, same_runs}
use Rattle.values.specs.declared.Kind.{Kind}

pub two : OfProfile 2
two = inl refl

pub fifteen : OfProfile 15
fifteen = inr (inl refl)

pub nineteen : OfProfile 19
nineteen = inr (inr refl)

-- ---- the goals of both

-- the index code is the profile's, where there is one
pub data Indexed (index : List ℕ) : Element → Type 0 where
  plain : {i : ℕ} → Indexed index (Is i)
  coded : {k : ℕ} → AcceptsIn false (instructions index k) K.Int → Indexed index (By k)

-- the profile's goal and the full box's, where P says what both have in common
pub data Goals (index : List ℕ) (P : Type 0) : Goal → Goal → Type 0 where
  both_stop : (a : ℕ) → Goals index P (none a) (none a)
  stops-alone : (a : ℕ) (g : Goal) → OfProfile a → Goals index P (none a) g
  both_go : (b : Bank) (e : Element) → P → Indexed index e → Goals index P (to b e) (to b e)

module _ (index : List ℕ) where
  by_code : (b : Bank) (k : ℕ) {v w : (Option Kind)} {P : Type 0} → P → BothChecks (instructions index k) v w
      → Goals index P (cond (is_accepted v) (to b (By k)) (none 15)) (cond (is_accepted w) (to b (By k)) (none 15))
  by_code b k p (passes a) = both_go b (By k) p (coded a)
  by_code b k p (fails w) = stops-alone 15 (cond (is_accepted w) (to b (By k)) (none 15)) fifteen

  of-element : (b : Bank) (e : Element) {P : Type 0} → P → Goals index P (given_goal_of_for false index (Some (b, e))) (given_goal_of index (Some (b, e)))
  of-element b (Is i) p = both_go b (Is i) p plain
  of-element b (By k) p = by_code b k p (both-checks (instructions index k))

  of-given : (f : (Option (Bank × Element))) → Goals index (Unit {0}) (given_goal_of_for false index (taken_found false f)) (given_goal_of index f)
  of-given None = both_stop 2
  of-given (Some (b, e)) = by (real_bank b)
    where
      by : (r : Bool) → Goals index (Unit {0}) (given_goal_of_for false index (cond r None (Some (b, e)))) (given_goal_of index (Some (b, e)))
      by true = stops-alone 2 (given_goal_of index (Some (b, e))) two
      by false = of-element b e tt

  of-run : (c : List Instr) (f : (Option (Bank × Element))) {v w : (Option Kind)} → BothChecks c v w
      → Goals index (AcceptsIn false c K.Int) (goal_of_for false index v (taken_found false f)) (goal_of index w f)
  of-run c None h = both_stop 2
  of-run c (Some (b, e)) {v} {w} h = by (real_bank b) h
    where
      by : (r : Bool) {v w : (Option Kind)} → BothChecks c v w
          → Goals index (AcceptsIn false c K.Int) (goal_of_for false index v (cond r None (Some (b, e)))) (goal_of index w (Some (b, e)))
      by true {w = w} h = stops-alone 2 (goal_of index w (Some (b, e))) two
      by false (passes a) = of-element b e a
      by false (fails w) = stops-alone 15 (goal_of index w (Some (b, e))) fifteen

  sized : (b : Bool) {P : Type 0} {g h : Goal} → Goals index P g h → Goals index P (cond b g (none 1)) (cond b h (none 1))
  sized true x = x
  sized false x = both_stop 1

  pub run-goals : (code target m : List ℕ) (n k : ℕ)
      → Goals index (IntegerCode code n) (goal_for false code n target index k m) (goal code n target index k m)
  run-goals code target m n k = sized (eqb (length m) image_size) (of-run (instructions code n) (found_to_run k target) (both-checks (instructions code n)))

  pub store-goals : (target m : List ℕ) (k : ℕ) → Goals index (Unit {0}) (given_goal_for false target index k m) (given_goal target index k m)
  store-goals target m k = sized (eqb (length m) image_size) (of-given (found_to_run k target))

-- ---- what both do

-- the profile's answer a and memory n, the full box's a' and n', on the memory m: the same, or the profile stops alone at its goal g
pub data Alike (m : List ℕ) (g : Goal) (a a' : Answer) (n n' : List ℕ) : Type 0 where
  same : a ≡ a' → n ≡ n' → Alike m g a a' n n'
  alone : (r : ℕ) → OfProfile r → g ≡ none r → a ≡ Refused r 0 → n ≡ m → Alike m g a a' n n'

module _ (tick : ℕ) (index m : List ℕ) where
  index-runs : {e : Element} → Indexed index e → (k : ℕ) → e ≡ By k → runs_in false tick index k m ≡ runs_at tick index k m
  index-runs plain k e = let z : ◌≡◌ {A = ℕ} 0 1 = cc in absurd (omega arith)
  index-runs (coded {k = j} a) k e =
      let i : j ≡ k = cc in subst (λ (k : ℕ). runs_in false tick index k m ≡ runs_at tick index k m) i (same_runs tick index j m a)

  same-arrival : (b : Bank) (e : Element) → Indexed index e → arrival_for false tick index m b e ≡ arrival tick index m b e
  same-arrival b e h = arrival-same false tick index m b e (index-runs h)

  pub ran-alike : (code : List ℕ) (n : ℕ) {g h : Goal} → Goals index (IntegerCode code n) g h
      → Alike m g (ran_answer_for false tick index m (runs_in false tick code n m) g) (ran_answer tick index m (runs_at tick code n m) h)
      (ran_memory_for false tick index m (runs_in false tick code n m) g) (ran_memory tick index m (runs_at tick code n m) h)
  ran-alike code n (both_stop a) = same refl refl
  ran-alike code n (stops-alone a h o) = alone a o refl refl refl
  ran-alike code n (both_go b e p i) =
      let x = runs_in false tick code n m in
      let r = same_runs tick code n m p in
      same
      (ap (λ (a : Arrival). finished m a x.end x.count) (same-arrival b e i)
      ∙ ap (λ (y : Ran). finished m (arrival tick index m b e) y.end y.count) r)
      (ap (λ (a : Arrival). memory_after m a x.end) (same-arrival b e i) ∙ ap (λ (y : Ran). memory_after m (arrival tick index m b e) y.end) r)

  -- store of an integer
  pub gave-alike : (z : ℤ) {g h : Goal} → Goals index (Unit {0}) g h
      → Alike m g (gave_answer_for false tick (V'.Int z) index m g) (gave_answer tick (V'.Int z) index m h)
      (gave_memory_for false tick (V'.Int z) index m g) (gave_memory tick (V'.Int z) index m h)
  gave-alike z (both_stop a) = same refl refl
  gave-alike z (stops-alone a h o) = alone a o refl refl refl
  gave-alike z (both_go b e p i) = same (ap (follow_answer m (V'.Int z) 0) (same-arrival b e i)) (ap (follow_memory m (V'.Int z)) (same-arrival b e i))

-- ---- a goal that the profile has

none-same : {a b : ℕ} → none a ≡ none b → a ≡ b
none-same e = cc

to-not : {A : Type 0} {b : Bank} {e : Element} {a : ℕ} → to b e ≡ none a → A
to-not e = let z : ◌≡◌ {A = ℕ} 0 1 = cc in absurd (omega arith)

not-one : {a : ℕ} → OfProfile a → 1 ≡ a → ⊥
not-one (inl e) i = omega arith
not-one (inr (inl e)) i = omega arith
not-one (inr (inr e)) i = omega arith

passes-code : (c : List Instr) → AcceptsIn false c K.Int → is_accepted (verdict_in false c) ≡ true
passes-code c a = ap is_accepted ((profile-verdicts.exact false c K.Int).1 a)

module _ (index : List ℕ) (f : (Option (Bank × Element))) (taken : taken_found false f ≡ None → ⊥)
    (by_index : (b : Bank) (j : ℕ) → taken_found false f ≡ Some (b, By j) → IntegerCode index j) where
  given_to : (x : (Option (Bank × Element))) → taken_found false f ≡ x → (a : ℕ) → given_goal_of_for false index x ≡ none a → ⊥
  given_to (Some (b, Is i)) e a h = to-not h
  given_to (Some (b, By j)) e a h =
      to-not (sym (ap (λ (x : Bool). cond x (to b (By j)) (none 15)) (passes-code (instructions index j) (by_index b j e))) ∙ h)
  given_to None e a h = taken e

  run-to : (c : List Instr) → AcceptsIn false c K.Int → (x : (Option (Bank × Element))) → taken_found false f ≡ x → (a : ℕ)
      → goal_of_for false index (verdict_in false c) x ≡ none a → ⊥
  run-to c p (Some (b, e)) i a h =
      given_to (Some (b, e)) i a (sym (ap (λ (x : Bool). cond x (given_goal_of_for false index (Some (b, e))) (none 15)) (passes-code c p)) ∙ h)
  run-to c p None i a h = taken i

wrong_size : (b : Bool) (g : Goal) (a : ℕ) → OfProfile a → ((r : ℕ) → g ≡ none r → ⊥) → cond b g (none 1) ≡ none a → ⊥
wrong_size true g a o n e = n a e
wrong_size false g a o n e = not-one o (none-same e)

module _ (target index m : List ℕ) (k : ℕ) (by_index : IntegerIndex k target index) (taken : run_target_in false k target ≡ None → ⊥) where
  pub run-goes : (code : List ℕ) (n : ℕ) → IntegerCode code n → (a : ℕ) → OfProfile a → goal_for false code n target index k m ≡ none a → ⊥
  run-goes code n p a o =
      wrong_size (eqb (length m) image_size) (goal_of_for false index (verdict_in false (instructions code n)) (run_target_in false k target)) a o
      (λ r e. run-to index (found_to_run k target) taken by_index (instructions code n) p (run_target_in false k target) refl r e)

  pub store_goes : (a : ℕ) → OfProfile a → given_goal_for false target index k m ≡ none a → ⊥
  store_goes a o =
      wrong_size (eqb (length m) image_size) (given_goal_of_for false index (run_target_in false k target)) a o
      (λ r e. given_to index (found_to_run k target) taken by_index (run_target_in false k target) refl r e)

-- so both do the same
pub both-alike : {m : List ℕ} {g : Goal} {a a' : Answer} {n n' : List ℕ} → ((r : ℕ) → OfProfile r → g ≡ none r → ⊥) → Alike m g a a' n n' → (a ≡ a') × (n ≡ n')
both-alike h (same e f) = (e, f)
both-alike h (alone r o i e f) = absurd (h r o i)
