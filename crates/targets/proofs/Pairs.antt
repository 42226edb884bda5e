-- What an equation of two pairs, or of two refusals, says of their parts.
use Rattle.std.specs.Prelude.{Option, Some, Result, Err, ℕ}
use mathlib.Core.Path.{◌≡◌, ap}
use Rattle.compiler.specs.Compile.{Coded, refusal}

module _ {A B : Type 0} {a c : A} {b d : B} (e : ◌≡◌ {A = Option (A × B)} (Some (a, b)) (Some (c, d))) where
  both : ◌≡◌ {A = A × B} (a, b) (c, d)
  both = cc

  pub first : a ≡ c
  first = ap (λ x. x.0) both

  pub second : b ≡ d
  second = ap (λ x. x.1) both

module _ {a p b q : ℕ} (e : ◌≡◌ {A = Coded} (Err (refusal a p)) (Err (refusal b q))) where
  one : refusal a p ≡ refusal b q
  one = cc

  pub answer-is : a ≡ b
  answer-is = ap (λ x. x.answer) one

  pub place-is : p ≡ q
  place-is = ap (λ x. x.place) one
