-- Both checks on one code, and both machines on code that the profile's check accepts.
use Rattle.std.specs.Prelude.{Option, Some, None}
use mathlib.Core.Path.{◌≡◌, refl, sym, ap, subst}
use mathlib.Core.Bool.{Bool, false}
use mathlib.Core.List.{List, []}
use Prim.Native.Nat.{ℕ}
use native.Mathlib.Omega.{arith}
use Rattle.values.specs.declared.Kind.{Kind}
use Rattle.values.specs.declared.Kind.TheVariants as K
use Rattle.memory.specs.Environment.{memory_at}
use Rattle.code.specs.declared.Instr.{Instr}
use Rattle.code.specs.Instructions.{instructions}
use Rattle.machine.specs.Machine.{runs_at}
use Rattle.machine.specs.Profile.{runs_in}
use Rattle.verifier.specs.Verdicts.{verdict}
use Rattle.verifier.proofs.Verdicts.{verdict-laws}
use Rattle.delivery.specs.declared.Answer.TheVariants as Answer
use Rattle.operations.specs.Operations.{done_with, verdict_answer}
use Rattle.operations.proofs.Requests.{kinded}
use Rattle.verifier.specs.Profile.{AcceptsIn, verdict_in}
use Rattle.verifier.proofs.Profile.{profile-verdicts}
use Rattle.profile_code.proofs.Theorems.{profile-code}
use Rattle.operations.specs.Profile.{check_answer_for}

-- the profile's verdict and the full box's
pub data BothChecks (c : List Instr) : Option Kind → Option Kind → Type 0 where
  passes : AcceptsIn false c K.Int → BothChecks c (Some K.Int) (Some K.Int)
  fails : (w : Option Kind) → BothChecks c None w

pub both-checks : (c : List Instr) → BothChecks c (verdict_in false c) (verdict c)
both-checks c = by (verdict_in false c) refl
  where
    accepted : AcceptsIn false c K.Int → BothChecks c (Some K.Int) (verdict c)
    accepted a = subst (BothChecks c (Some K.Int)) (sym ((verdict-laws.exact c K.Int).1 ((profile-code.checked c K.Int).0 a).0)) (passes a)

    by : (v : Option Kind) → verdict_in false c ≡ v → BothChecks c v (verdict c)
    by None e = fails (verdict c)
    by (Some K.Int) e = accepted ((profile-verdicts.exact false c K.Int).0 e)
    by (Some K.Real) e =
        let k : K.Real ≡ K.Int = (profile-code.ran (memory_at 0 []) c K.Real (kinded 0 []) ((profile-verdicts.exact false c K.Real).0 e)).0 in
        let z : ◌≡◌ {A = ℕ} 0 1 = cc in absurd (omega arith)

-- ---- runs

pub same_runs : (tick : ℕ) (code : List ℕ) (n : ℕ) (m : List ℕ) → AcceptsIn false (instructions code n) K.Int
    → runs_in false tick code n m ≡ runs_at tick code n m
same_runs tick code n m a = (profile-code.ran (memory_at tick m) (instructions code n) K.Int (kinded tick m) a).1

-- ---- the check's answer

done-not : {A : Type 0} → Answer.Refused 15 0 ≡ done_with 0 → A
done-not e = let z : ◌≡◌ {A = ℕ} 0 1 = cc in absurd (omega arith)

module _ (reals : Bool) (code : List ℕ) (n : ℕ) where
  pub checks-only : check_answer_for reals code n ≡ done_with 0 → (k : Kind) × AcceptsIn reals (instructions code n) k
  checks-only e = by (verdict_in reals (instructions code n)) refl e
    where
      by : (v : Option Kind) → verdict_in reals (instructions code n) ≡ v → verdict_answer v ≡ done_with 0 → (k : Kind) × AcceptsIn reals (instructions code n) k
      by (Some k) q e = (k, (profile-verdicts.exact reals (instructions code n) k).0 q)
      by None q e = done-not e

  pub checks-all : (k : Kind) → AcceptsIn reals (instructions code n) k → check_answer_for reals code n ≡ done_with 0
  checks-all k a = ap verdict_answer ((profile-verdicts.exact reals (instructions code n) k).1 a)

  pub checks_else : ((k : Kind) → AcceptsIn reals (instructions code n) k → ⊥) → check_answer_for reals code n ≡ Answer.Refused 15 0
  checks_else none = by (verdict_in reals (instructions code n)) refl
    where
      by : (v : Option Kind) → verdict_in reals (instructions code n) ≡ v → verdict_answer v ≡ Answer.Refused 15 0
      by (Some k) q = absurd (none k ((profile-verdicts.exact reals (instructions code n) k).0 q))
      by None q = refl
