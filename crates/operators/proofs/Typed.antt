-- What the operators by number make of kinds: the classes of the binary ones, and what a result says.
use Rattle.std.specs.Prelude.{Option, Some, None}
use mathlib.Core.Path.{◌≡◌, refl}
use mathlib.Core.Bool.{Bool, true, false, ◌&&◌}
use Prim.Native.Nat.{ℕ, ◌%◌, ◌≤◌, ◌<◌}
use native.Mathlib.Omega.{arith}
use lib.Dec.{ltb}
use borrow.Author.Rules.{rules}
use Rattle.values.specs.declared.Kind.{Kind}
use Rattle.values.specs.declared.Kind.TheVariants.{Int, Real}
use Rattle.operators.specs.Tables.{binary_of}
use Rattle.operators.specs.Kinds.{is_int, join, unary_kind, unary_takes, binary_kind, binary_takes, number_kind, kind_number, typed, unary_typed, binary_typed}
use Rattle.operators.proofs.Ranges.{in-range}
use Rattle.operators.specs.declared.BinaryOp.{BinaryOp}
use Rattle.operators.specs.declared.UnaryOp.{UnaryOp}

-- ---- the binary operator of the number o has the rule f

abbrev By : (Kind → Kind → ℕ) → ℕ → Type 0
By f o = (j k : Kind) → f j k ≡ binary_typed (binary_of o) j k

abbrev joins : Kind → Kind → ℕ
joins j k = kind_number (join j k)

abbrev ints : Kind → Kind → ℕ
ints j k = typed (is_int j && is_int k) Int

module _ {o : ℕ} where
  pub sums : 1 ≤ o → o < 6 → By joins o
  sums l h = in-range (By joins) 1 5 (search rules) o l h

  pub shifts : 6 ≤ o → o < 9 → By ints o
  shifts l h = in-range (By ints) 6 3 (search rules) o l h

  pub comparisons : 9 ≤ o → o < 15 → By (λ j k. 0) o
  comparisons l h = in-range (By (λ j k. 0)) 9 6 (search rules) o l h

  pub bitwise : 15 ≤ o → o < 18 → By ints o
  bitwise l h = in-range (By ints) 15 3 (search rules) o l h

  pub choices : 18 ≤ o → o < 20 → By joins o
  choices l h = in-range (By joins) 18 2 (search rules) o l h

-- ---- what a result says

pub kind-small : (k : Kind) → kind_number k < 2
kind-small Int = omega arith
kind-small Real = omega arith

pub typed-taken : (b : Bool) (k : Kind) → ltb (typed b k) 2 ≡ b
typed-taken true Int = refl
typed-taken true Real = refl
typed-taken false Int = refl
typed-taken false Real = refl

pub typed-kind : (b : Bool) (k : Kind) → number_kind (typed b k % 2) ≡ k
typed-kind true Int = refl
typed-kind true Real = refl
typed-kind false Int = refl
typed-kind false Real = refl

pub typed-small : (b : Bool) (k : Kind) → typed b k < 4
typed-small true Int = omega arith
typed-small true Real = omega arith
typed-small false Int = omega arith
typed-small false Real = omega arith

pub unary-small : (o : (Option UnaryOp)) (k : Kind) → unary_typed o k < 4
unary-small (Some o) k = typed-small (unary_takes o k) (unary_kind o k)
unary-small None k = omega arith

pub binary-small : (o : (Option BinaryOp)) (j k : Kind) → binary_typed o j k < 4
binary-small (Some o) j k = typed-small (binary_takes o j k) (binary_kind o j k)
binary-small None j k = omega arith
