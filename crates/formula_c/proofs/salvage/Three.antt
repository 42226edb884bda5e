-- The three words of a salvage. Assumes nothing.
use mathlib.Core.Path.{◌≡◌, refl, ap, ◌∙◌}
use mathlib.Core.List.{[], ◌∷◌}
use Rattle.salvage_laws.specs.Salvage.{Salvage, rescued, unfit}
use Rattle.card_salvage.specs.declared.Salvaged.{Salvaged}
use Rattle.card_salvage.specs.Outputs.{salvaged_in}
use Rattle.formula_c.specs.Salvage.{salvage_words}

pub three : (s : Salvaged) (x : Salvage) → s ≡ salvaged_in x → s.answer ∷ s.kept ∷ s.named ∷ [] ≡ salvage_words x
three s x e = ap (λ (v : Salvaged). v.answer ∷ v.kept ∷ v.named ∷ []) e ∙ by x
  where
    by : (x : Salvage) → (salvaged_in x).answer ∷ (salvaged_in x).kept ∷ (salvaged_in x).named ∷ [] ≡ salvage_words x
    by (rescued k n) = refl
    by unfit = refl
