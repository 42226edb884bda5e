-- Compile, compile a target, and compile and run: on texts and targets that the profile takes they are the full box's, and on others the profile refuses.
use mathlib.Core.Path.{◌≡◌, refl, sym, ap, ◌∙◌}
use mathlib.Core.Bool.{Bool, true, false, cond}
use mathlib.Core.List.{List}
use Prim.Native.Nat.{ℕ, ◌≤◌}
use native.Mathlib.Omega.{arith}
use lib.Dec.{eqb, ltb}
use lib.ListN.{length}
use Rattle.memory.specs.Layout.{image_size}
use Rattle.grammar.specs.Tree.{Tree}
use Rattle.grammar.specs.Parse.{most_open}
use Rattle.text.specs.Judge.{Judgement, accepted, refused, judge}
use Rattle.text.specs.Targets.{Target, to_cell, to_indexed, no_target, target_of}
use Rattle.compiler.specs.Compile.{in_room, compiling, compiling_in}
use Rattle.targets.specs.Found.{index_bytes}
use Rattle.delivery.specs.declared.Answer.TheVariants.{Refused}
use Rattle.operations.specs.Operations.{target_answer, compile_target_answer, compile_target_code, Request, stops, of_text, of_target, request}
use Rattle.profile_text.specs.Trees.{integer_only}
use Rattle.profile_text.specs.Judge.{judge_in}
use Rattle.profile_text.specs.Targets.{integer_target, taken_target, target_in}
use Rattle.profile_text.proofs.Theorems.{profile-texts}
use Rattle.profile_text.proofs.Judging.{Judged, as_full, real-token, judged}
use Rattle.operations.proofs.Requests.{sized}
use Rattle.operations.proofs.Full.{same-judged}
use Rattle.operations.specs.Profile.{compile_target_answer_for, compile_target_code_for, of_target_for, request_for}
use Rattle.profile_laws.specs.Results.{OfProfile}
use Rattle.profile_laws.proofs.Goals.{two, nineteen}

none_open : 0 ≤ most_open
none_open = omega arith

-- ---- texts

-- what the profile takes the full box takes
pub took : (s : List ℕ) (t : Tree) → judge_in false 0 s ≡ accepted t → (judge s ≡ accepted t) × (integer_only t ≡ true)
took s t e = (profile-texts.accepts 0 s t none_open).0 e

same-judge : (s : List ℕ) (t : Tree) → judge_in false 0 s ≡ accepted t → judge_in false 0 s ≡ judge s
same-judge s t e = e ∙ sym (took s t e).0

pub same-compiling : (room : ℕ) (s : List ℕ) (t : Tree) → judge_in false 0 s ≡ accepted t → compiling_in false 0 room s ≡ compiling room s
same-compiling room s t e = ap (in_room room) (same-judge s t e)

-- two judgements: one, or the profile finds a real token
pub data Judgements : Judgement → Judgement → Type 0 where
  one-judgement : (j : Judgement) → Judgements j j
  real-found : (p : ℕ) (j : Judgement) → Judgements (refused 19 p) j

of-judged : {s : List ℕ} {j : Judgement} → Judged 0 s j → Judgements j (judge s)
of-judged {s} (as_full h) = one-judgement (judge s)
of-judged {s} (real-token p r) = real-found p (judge s)

pub both-judge : (s : List ℕ) → Judgements (judge_in false 0 s) (judge s)
both-judge s = of-judged (judged 0 s)

pub both-compile : (room : ℕ) (s : List ℕ) → Judgements (compiling_in false 0 room s) (compiling room s)
both-compile room s = by (ltb room 16384) (both-judge s)
  where
    by : (b : Bool) {j k : Judgement} → Judgements j k → Judgements (cond b (refused 10 0) j) (cond b (refused 10 0) k)
    by true h = one-judgement (refused 10 0)
    by false h = h

-- ---- targets

pub data Targets : Target → Target → Type 0 where
  one-target : (g : Target) → Targets g g
  none-taken : (g : Target) → Targets no_target g

pub both-target : (g : Target) → Targets (taken_target false g) g
both-target g = by (integer_target g)
  where
    by : (b : Bool) → Targets (cond b g no_target) g
    by true = one-target g
    by false = none-taken g

same_taken : {g h : Target} → (g ≡ no_target → ⊥) → Targets g h → g ≡ h
same_taken n (one-target g) = refl
same_taken n (none-taken g) = absurd (n refl)

pub same_target : (s : List ℕ) → (target_in false s ≡ no_target → ⊥) → target_in false s ≡ target_of s
same_target s n = same_taken n (both-target (target_of s))

module _ (index target : List ℕ) (e : target_in false target ≡ target_of target) where
  pub same-target-answer : compile_target_answer_for false index target ≡ compile_target_answer index target
  same-target-answer = ap (λ (g : Target). cond (ltb (length index) 16384) (Refused 10 0) (target_answer g)) e

  pub same-target-code : compile_target_code_for false index target ≡ compile_target_code index target
  same-target-code = ap (λ (g : Target). cond (ltb (length index) 16384) index (index_bytes index g)) e

-- ---- requests

module _ (text m code index : List ℕ) where
  pub same-request : (target : List ℕ) (t : Tree) → judge_in false 0 text ≡ accepted t → (target_in false target ≡ no_target → ⊥)
      → request_for false target text m code index ≡ request target text m code index
  same-request target t e n =
      ap (sized m code index)
      (same-judged text code index false (same-judge text t e) (target_in false target) ∙ ap (of_target text code index) (same_target target n))

  -- two requests: one, or the profile stops alone
  pub data Requests : Request → Request → Type 0 where
    one-request : (q : Request) → Requests q q
    stops-before : (a p : ℕ) (q : Request) → OfProfile a → Requests (stops a p) q

  of-text : (g : Target) {j k : Judgement} → Judgements j k → Requests (of_text code index g j) (of_text code index g k)
  of-text g (one-judgement j) = one-request (of_text code index g j)
  of-text g (real-found p k) = stops-before 19 p (of_text code index g k) nineteen

  both-texts : (g : Target) → Requests (of_target_for false text code index g) (of_target text code index g)
  both-texts (to_cell b i) = of-text (to_cell b i) (both-judge text)
  both-texts (to_indexed b t) = of-text (to_indexed b t) (both-judge text)
  both-texts no_target = one-request (stops 2 0)

  both-targets : {g h : Target} → Targets g h → Requests (of_target_for false text code index g) (of_target text code index h)
  both-targets (one-target g) = both-texts g
  both-targets (none-taken g) = stops-before 2 0 (of_target text code index g) two

  both-sized : (a b c : Bool) {q r : Request} → Requests q r
      → Requests (cond a (cond b (stops 10 0) (cond c (stops 10 0) q)) (stops 1 0)) (cond a (cond b (stops 10 0) (cond c (stops 10 0) r)) (stops 1 0))
  both-sized false b c h = one-request (stops 1 0)
  both-sized true true c h = one-request (stops 10 0)
  both-sized true false true h = one-request (stops 10 0)
  both-sized true false false h = h

  pub both-requests : (target : List ℕ) → Requests (request_for false target text m code index) (request target text m code index)
  both-requests target =
      both-sized (eqb (length m) image_size) (ltb (length code) 16384) (ltb (length index) 16384) (both-targets (both-target (target_of target)))
