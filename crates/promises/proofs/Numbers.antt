-- The refusals of a text are 3 to 9 (text's Numbers). A fault's number is 11 to 14, and its own.
use mathlib.Core.Path.{◌≡◌, refl, sym, ap, ◌∙◌}
use mathlib.Core.Logic.{◌⊎◌, ⊎_elim}
use mathlib.Core.Bool.{cond}
use Prim.Native.Nat.{ℕ, ◌≤◌}
use native.Mathlib.Omega.{arith}
use lib.Dec.{eqb}
use Rattle.values.specs.declared.Fault.{Fault}
use Rattle.values.specs.declared.Fault.TheVariants.{DividedByZero, Overflow, OutOfRange, IndexError}
use Rattle.values.specs.Values.{fault_number}
pub use Rattle.text.proofs.Numbers.{either, Numbered, formula, three-to-nine, numbered}

-- ---- faults

pub fault-range : (f : Fault) → (11 ≤ fault_number f) × (fault_number f ≤ 14)
fault-range DividedByZero = (omega arith, omega arith)
fault-range Overflow = (omega arith, omega arith)
fault-range OutOfRange = (omega arith, omega arith)
fault-range IndexError = (omega arith, omega arith)

pub no-fault : {a : ℕ} (f : Fault) → (a ≤ 10) ⊎ (a ≡ 15) → a ≡ fault_number f → ⊥
no-fault f h e = let r = fault-range f in ⊎_elim (λ l. omega arith) (λ l. omega arith) h

abbrev numbered_fault : ℕ → Fault
numbered_fault n = cond (eqb n 11) DividedByZero (cond (eqb n 12) Overflow (cond (eqb n 13) OutOfRange IndexError))

back : (f : Fault) → numbered_fault (fault_number f) ≡ f
back DividedByZero = refl
back Overflow = refl
back OutOfRange = refl
back IndexError = refl

pub own-number : (f g : Fault) → fault_number f ≡ fault_number g → f ≡ g
own-number f g e = sym (back f) ∙ ap numbered_fault e ∙ back g
