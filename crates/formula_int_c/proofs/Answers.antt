-- The profile's answers have integers for values, by profile_laws.
use mathlib.Core.Path.{◌≡◌, ◌∙◌, ap, sym}
use mathlib.Core.Bool.{true, false}
use mathlib.Core.List.{List}
use Prim.Native.Nat.{ℕ}
use native.Mathlib.Omega.{arith}
use Rattle.values.specs.declared.Value.{Value}
use Rattle.operators.specs.Reals.{real_value}
use Rattle.delivery.specs.declared.Answer.{Answer}
use Rattle.operations.specs.Operations.{report_of}
use Rattle.promises.specs.Promises.{Operation}
use Rattle.profile_laws.specs.Results.{result_for}
use Rattle.profile_laws.proofs.Theorems.{profile-theorems}

pub no-real : {A : Type 0} (v : Value) → real_value v ≡ true → real_value v ≡ false → A
no-real v p q = absurd (let z : true ≡ false = sym p ∙ q in let i : ◌≡◌ {A = ℕ} 0 1 = cc in omega arith)

pub integer-answer : {a b : Answer} → a ≡ b → real_value (report_of b).value ≡ false → real_value (report_of a).value ≡ false
integer-answer p q = ap (λ (x : Answer). real_value (report_of x).value) p ∙ q

-- of an operation; what it has no input for may be any list
pub of-operation : (o : Operation) (target m code index : List ℕ) {a : Answer} → a ≡ (result_for false o target m code index).answer
    → real_value (report_of a).value ≡ false
of-operation o target m code index p = integer-answer p (profile-theorems.integers o target m code index)
