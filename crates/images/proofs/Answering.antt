-- What a conversion answers and leaves, by the two sizes. Assumes nothing.
use mathlib.Core.Path.{◌≡◌, refl, ap, ◌∙◌}
use mathlib.Core.Bool.{cond}
use mathlib.Core.List.{List, ◌++◌}
use Prim.Native.Nat.{ℕ}
use lib.ListN.{length, take}
use lib.Seq.{take-append_seam}
use borrow.Author.Tests.{eq-eqb, ne_eqb}
use Rattle.memory.specs.Layout.{image_size}
use Rattle.images.specs.Bytewise.{old_size}
use Rattle.images.specs.Conversions.{row, sized, conversion_answer}
use Rattle.images.proofs.Rows.{row-length}

-- a buffer b stays, or becomes c
module _ (m n b c : List ℕ) where
  pub refused-old : (length m ≡ old_size → ⊥) → (1 ≡ conversion_answer m n) × (b ≡ cond (sized m n) c b)
  refused-old h = rw (ne_eqb (length m) old_size h) (refl, refl)

  pub refused-new : length m ≡ old_size → (length n ≡ image_size → ⊥) → (1 ≡ conversion_answer m n) × (b ≡ cond (sized m n) c b)
  refused-new h g = rw (eq-eqb (length m) old_size h, ne_eqb (length n) image_size g) (refl, refl)

  pub done : {t : List ℕ} → length m ≡ old_size → length n ≡ image_size → t ≡ c → (0 ≡ conversion_answer m n) × (t ≡ cond (sized m n) c b)
  done h g e = rw (eq-eqb (length m) old_size h, eq-eqb (length n) image_size g) (refl, e)

-- what was filled first, before what was copied then
pub joined : (f : ℕ → ℕ) (k : ℕ) (s r : List ℕ) {t u : List ℕ} → t ≡ row f 0 k ++ s → u ≡ take k t ++ r → u ≡ row f 0 k ++ r
joined f k s r e q = q ∙ ap (λ (x : List ℕ). x ++ r) (ap (take k) e ∙ front)
  where
    front : take k (row f 0 k ++ s) ≡ row f 0 k
    front = rw (row-length f 0 k) at (take-append_seam (row f 0 k) s)
