-- What the operator of a number makes of two integers.
use mathlib.Core.Path.{◌≡◌, ◌∙◌}
use Prim.Native.Nat.{ℕ}
use lib.IntN.{ℤ}
use mir.Syntax.{w32}
use mir.Val.{SFits}
use mir.ValLaws.{to_z-of_z}
use Rattle.values.specs.declared.Value.TheVariants.{Int}
use Rattle.values.specs.declared.Outcome.{Outcome}
use Rattle.operators.specs.Tables.{binary_of}
use Rattle.operators.specs.private.Numbered.{binary_numbered}
use Rattle.operators.proofs.Cases.{read}

-- the operator k, which is f on integers
pub of-ints : {n i j : _} (k : ℕ) (f : ℤ → ℤ → Outcome) {r : Outcome} → SFits w32 i → SFits w32 j → n ≡ k
    → ((a b : ℤ) → f a b ≡ binary_numbered (binary_of k) (Int a) (Int b))
    → r ≡ f (read i) (read j) → r ≡ binary_numbered (binary_of n) (Int i) (Int j)
of-ints {n} {i} {j} k f F G e d h = rw e ((rw (to_z-of_z w32 i F, to_z-of_z w32 j G) at h) ∙ d i j)
