-- Which targets run and store take, and a real that is given to be stored.
use Rattle.std.specs.Prelude.{Option, Some, None}
use mathlib.Core.Path.{◌≡◌, refl, sym, ap, ◌∙◌}
use mathlib.Core.Logic.{◌↔◌}
use mathlib.Core.Bool.{Bool, true, false, cond}
use mathlib.Core.List.{List}
use Prim.Native.Nat.{ℕ}
use native.Mathlib.Omega.{arith}
use lib.Ieee.{Float}
use Rattle.values.specs.declared.Value.TheVariants.{Real}
use Rattle.memory.specs.declared.Bank.{Bank}
use Rattle.memory.specs.Cells.{real_bank}
use Rattle.targets.specs.declared.Element.{Element}
use Rattle.targets.specs.Found.{found_to_run, taken_found, run_target_in}
use Rattle.delivery.specs.declared.Answer.TheVariants.{Refused}
use Rattle.operations.specs.Operations.{Goal, to}
use Rattle.operations.specs.Profile.{given_goal_for, gave_answer_for, gave_memory_for, given_answer_for, given_memory_for}
use Rattle.targets.proofs.Pairs.{first}

module _ {A : Type 0} {b : Bank} {e : Element} where
  not-other : ◌≡◌ {A = Option (Bank × Element)} None (Some (b, e)) → A
  not-other h = let z : ◌≡◌ {A = ℕ} 0 1 = cc in absurd (omega arith)

taken : (x : (Option (Bank × Element))) (b : Bank) (e : Element) → taken_found false x ≡ Some (b, e) → (x ≡ Some (b, e)) × (real_bank b ≡ false)
taken None b e h = not-other h
taken (Some (c, i)) b e h = by (real_bank c) refl h
  where
    by : (r : Bool) → real_bank c ≡ r → cond {A = Option (Bank × Element)} r None (Some (c, i)) ≡ Some (b, e) → (◌≡◌ {A = Option (Bank × Element)} (Some (c, i)) (Some (b, e))) × (real_bank b ≡ false)
    by true q h = not-other h
    by false q h = (h, ap real_bank (sym (first h)) ∙ q)

pub taken_run : (k : ℕ) (s : List ℕ) (b : Bank) (e : Element) → run_target_in false k s ≡ Some (b, e) ↔ ((found_to_run k s ≡ Some (b, e)) × (real_bank b ≡ false))
taken_run k s b e =
    (taken (found_to_run k s) b e, λ h. ap (taken_found false) h.0 ∙ ap (λ (r : Bool). cond {A = Option (Bank × Element)} r None (Some (b, e))) h.1)

pub store_real : (x : Float) (target index m : List ℕ) (k tick : ℕ) (b : Bank) (e : Element) → given_goal_for false target index k m ≡ to b e
    → (given_answer_for false tick (Real x) target index k m ≡ Refused 19 0) × (given_memory_for false tick (Real x) target index k m ≡ m)
store_real x target index m k tick b e h = (ap (gave_answer_for false tick (Real x) index m) h, ap (gave_memory_for false tick (Real x) index m) h)
