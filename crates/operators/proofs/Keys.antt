-- A match whose arms take several variants each: an arm knows only that the value's place in its enum is one of the arm's keys.
use mathlib.Core.Path.{◌≡◌, sym, ap, ◌∙◌}
use mathlib.Core.Logic.{inl, inr}
use mathlib.Core.List.{List, [], ◌∷◌}
use Prim.Native.Nat.{ℕ}
use types.Run.{OneOf}

module _ {A : Type 0} (r : A) (g : ℕ → A) where
  -- g gives r at each of the keys
  abbrev pub Alike : List ℕ → Type 0
  Alike [] = Unit {0}
  Alike (k ∷ ks) = (r ≡ g k) × Alike ks

  -- so it does at a place that is one of them
  pub by-keys : (ks : List ℕ) (t : ℕ) → Alike ks → OneOf ks t → r ≡ g t
  by-keys [] t e o = absurd o
  by-keys (k ∷ []) t e o = e.0 ∙ ap g (sym o)
  by-keys (k ∷ j ∷ ks) t e (inl o) = e.0 ∙ ap g (sym o)
  by-keys (k ∷ j ∷ ks) t e (inr o) = by-keys (j ∷ ks) t e.1 o
