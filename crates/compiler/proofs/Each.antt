-- What holds of each element of a list, and of the parts of a list.
use mathlib.Core.List.{List, [], ◌∷◌, ◌++◌}

pub data Each {A : Type 0} (P : A → Type 0) : List A → Type 0 where
  none : Each P []
  some : {a : A} {l : List A} → P a → Each P l → Each P (a ∷ l)

module _ {A : Type 0} {P : A → Type 0} where
  pub each_append : {k l : List A} → Each P k → Each P l → Each P (k ++ l)
  each_append none f = f
  each_append (some h e) f = some h (each_append e f)

  pub each_first : {a : A} {l : List A} → Each P (a ∷ l) → P a
  each_first (some h e) = h

  pub each-rest : {a : A} {l : List A} → Each P (a ∷ l) → Each P l
  each-rest (some h e) = e

  pub each-front : (k l : List A) → Each P (k ++ l) → Each P k
  each-front [] l e = none
  each-front (a ∷ k) l e = some (each_first e) (each-front k l (each-rest e))

  pub each_back : (k l : List A) → Each P (k ++ l) → Each P l
  each_back [] l e = e
  each_back (a ∷ k) l e = each_back k l (each-rest e)
