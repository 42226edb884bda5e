-- Two byte strings compared: that unlike lengths are unlike strings, and that the comparison finds equality.
use mathlib.Core.Path.{◌≡◌, refl, ap}
use mathlib.Core.Bool.{true, false, and-false}
use mathlib.Core.List.{List, [], ◌∷◌}
use Prim.Native.Nat.{ℕ, suc}
use lib.Dec.{eqb}
use lib.ListN.{length}
use borrow.Author.Tests.{eqb-true}
use Rattle.tokens.specs.Symbols.{equal_bytes}
use Rattle.tokens.proofs.Tests.{both, no}

pub unlike : (s t : List ℕ) → (length s ≡ length t → ⊥) → false ≡ equal_bytes s t
unlike [] [] n = absurd (n refl)
unlike [] (d ∷ ds) n = refl
unlike (c ∷ cs) [] n = refl
unlike (c ∷ cs) (d ∷ ds) n = rw (← unlike cs ds (λ e. n (ap suc e)), and-false)

pub equal : (s t : List ℕ) → equal_bytes s t ≡ true → s ≡ t
equal [] [] e = refl
equal [] (d ∷ ds) e = no e
equal (c ∷ cs) [] e = no e
equal (c ∷ cs) (d ∷ ds) e =
    let h = both (eqb c d) (equal_bytes cs ds) e in rw (eqb-true c d h.0, equal cs ds h.1)
