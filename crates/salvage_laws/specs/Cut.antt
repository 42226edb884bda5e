-- A list of bytes cut into parts behind some of them; no part is empty.
use Rattle.std.specs.Prelude.{Bool, cond, List, [], ◌∷◌, ◌++◌, ℕ}

-- a byte before the first of the parts that follow it
abbrev pub onto_first : ℕ → List (List ℕ) → List (List ℕ)
onto_first c [] = (c ∷ []) ∷ []
onto_first c (p ∷ ps) = (c ∷ p) ∷ ps

-- `ends c cs`: a part ends behind the byte c, where cs follow
abbrev pub cut : (ℕ → List ℕ → Bool) → List ℕ → List (List ℕ)
cut ends [] = []
cut ends (c ∷ cs) = cond (ends c cs) ((c ∷ []) ∷ cut ends cs) (onto_first c (cut ends cs))

-- one behind the other
abbrev pub joined : List (List ℕ) → List ℕ
joined [] = []
joined (p ∷ ps) = p ++ joined ps
