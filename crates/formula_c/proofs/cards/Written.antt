-- The three words of what was written. Assumes nothing.
use mathlib.Core.Path.{◌≡◌, refl, ap, ◌∙◌}
use mathlib.Core.List.{[], ◌∷◌}
use Rattle.card_laws.specs.Writing.{CardsWritten, done, unwritten}
use Rattle.card_write.specs.declared.Written.{Written}
use Rattle.card_write.specs.Given.{written_in}
use Rattle.formula_c.specs.Cards.{written_words}

pub three : (w : Written) (x : CardsWritten) → w ≡ written_in x → w.answer ∷ w.place ∷ w.length ∷ [] ≡ written_words x
three w x e = ap (λ (v : Written). v.answer ∷ v.place ∷ v.length ∷ []) e ∙ by x
  where
    by : (x : CardsWritten) → (written_in x).answer ∷ (written_in x).place ∷ (written_in x).length ∷ [] ≡ written_words x
    by (done s) = refl
    by (unwritten a p) = refl
