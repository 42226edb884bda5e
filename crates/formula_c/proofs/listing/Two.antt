-- The two words of a listing's result.
use mathlib.Core.Path.{◌≡◌, ap, ◌∙◌}
use mathlib.Core.List.{[], ◌∷◌}
use Prim.Native.Nat.{ℕ, ◌%◌, ◌^◌}
use lib.ListN.{length}
use Rattle.code_listing.specs.Listing.{Listed}
use Rattle.formula_c.specs.Listing.{listed_words}

pub two : (l : Listed) {a n x : ℕ} → a ≡ l.answer → n ≡ length l.text → x ≡ n % 2 ^ 32 → a ∷ x ∷ [] ≡ listed_words l
two l {a} {n} {x} e f g =
    ap (λ (b : ℕ). b ∷ x ∷ []) e ∙ ap (λ (y : ℕ). l.answer ∷ y ∷ []) (g ∙ ap (λ (m : ℕ). m % 2 ^ 32) f)
