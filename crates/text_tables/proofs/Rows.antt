-- The rows of a table are the parts that its line ends cut it into. Assumes nothing.
use mathlib.Core.Path.{◌≡◌, refl, sym, ap, ◌∙◌}
use mathlib.Core.Bool.{Bool, true, false}
use mathlib.Core.List.{List, [], ◌∷◌}
use Prim.Native.Nat.{ℕ, zero, suc}
use lib.Dec.{eqb}
use Rattle.std.proofs.Common.{Option, Some, None, unwrap_or}
use Rattle.std.specs.List.{slice_get, slice_split, onto_first}
use Rattle.text_tables.specs.Tables.{row_at}

nothing : (k : ℕ) → row_at k [] ≡ []
unfolding row_at
nothing zero = refl
nothing (suc k) = nothing k

abbrev parts : List ℕ → List (List ℕ)
parts s = slice_split (λ c. eqb c 10) s

abbrev part : List (List ℕ) → ℕ → List ℕ
part ls k = unwrap_or (slice_get ls k) []

onto-part : (c : ℕ) (ls : List (List ℕ)) → part (onto_first c ls) 0 ≡ c ∷ part ls 0
onto-part c [] = refl
onto-part c (l ∷ ls) = refl

onto-others : (c : ℕ) (ls : List (List ℕ)) (k : ℕ) → part (onto_first c ls) (suc k) ≡ part ls (suc k)
onto-others c [] k = refl
onto-others c (l ∷ ls) k = refl

rows : (s : List ℕ) (k : ℕ) → part (parts s) k ≡ row_at k s
unfolding row_at
rows [] zero = refl
rows [] (suc k) = sym (nothing k)
rows (c ∷ cs) k = by (eqb c 10) refl k (rows cs)
  where
    by : (t : Bool) → eqb c 10 ≡ t → (k : ℕ) → ((k : ℕ) → part (parts cs) k ≡ row_at k cs) → part (parts (c ∷ cs)) k ≡ row_at k (c ∷ cs)
    by true e zero h = rw e
    by true e (suc k) h = rw e (h k)
    by false e zero h = rw e (onto-part c (parts cs) ∙ ap (λ (l : List ℕ). c ∷ l) (h 0))
    by false e (suc k) h = rw e (onto-others c (parts cs) k ∙ h (suc k))

pub a-row : (s : List ℕ) (k : ℕ) {o : Option (List ℕ)} {r : List ℕ} → o ≡ slice_get (parts s) k → o ≡ Some r → r ≡ row_at k s
a-row s k e f = ap (λ (o : Option (List ℕ)). unwrap_or o []) (sym f ∙ e) ∙ rows s k

pub no_row : (s : List ℕ) (k : ℕ) {o : Option (List ℕ)} → o ≡ slice_get (parts s) k → o ≡ None → [] ≡ row_at k s
no_row s k e f = ap (λ (o : Option (List ℕ)). unwrap_or o []) (sym f ∙ e) ∙ rows s k
