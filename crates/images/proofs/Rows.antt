-- A row of bytes by their places, before the rest of another image. Assumes nothing.
use mathlib.Core.Path.{◌≡◌, refl, sym, ap, ◌∙◌}
use mathlib.Core.List.{List, ◌++◌}
use Prim.Native.Nat.{ℕ, zero, suc, ◌+◌, ◌<◌}
use native.Mathlib.Nat.{add-zero, add-suc, suc-add}
use native.Mathlib.Omega.{arith}
use lib.Dec.{lit<}
use lib.ListN.{length, get_or, take, drop}
use lib.Seq.{get_or-take, get_or-drop, drop-append-add, get_or-append-add, drop-drop}
use Rattle.words.specs.Words.{little_endian}
use Rattle.memory.proofs.Runs.{run_is}
use Rattle.images.specs.Conversions.{row}

pub row-length : (f : ℕ → ℕ) (k n : ℕ) → length (row f k n) ≡ n
row-length f k zero = refl
row-length f k (suc n) = ap suc (row-length f (suc k) n)

pub row_at : (f : ℕ → ℕ) (k n : ℕ) (rest : List ℕ) (j : ℕ) → j < n → get_or (row f k n ++ rest) j 0 ≡ f (k + j)
row_at f k zero rest j h = absurd (omega arith)
row_at f k (suc n) rest zero h = ap f (sym (add-zero k))
row_at f k (suc n) rest (suc j) h = row_at f (suc k) n rest j (omega arith) ∙ ap f (suc-add k j ∙ sym (add-suc k j))

-- behind n bytes stands what stood behind the first q of another image
module _ (front s : List ℕ) (n q : ℕ) (e : length front ≡ n) where
  pub rest_from : (k : ℕ) → drop (n + k) (front ++ drop q s) ≡ drop (q + k) s
  rest_from k = ap (λ (z : ℕ). drop (z + k) (front ++ drop q s)) (sym e) ∙ drop-append-add front (drop q s) k ∙ drop-drop k q s

  pub rest_at : (k : ℕ) → get_or (front ++ drop q s) (n + k) 0 ≡ get_or s (q + k) 0
  rest_at k = ap (λ (z : ℕ). get_or (front ++ drop q s) (z + k) 0) (sym e) ∙ get_or-append-add front (drop q s) k 0 ∙ get_or-drop q s k 0

-- ---- one byte
pub first_byte : (s : List ℕ) (at : ℕ) → get_or (take 1 (drop at s)) 0 0 ≡ get_or s at 0
first_byte s at = get_or-take 1 (drop at s) 0 0 (lit< tt) ∙ get_or-drop at s 0 0 ∙ ap (λ (n : ℕ). get_or s n 0) (add-zero at)

pub byte-number : (s : List ℕ) (at : ℕ) → at < length s → little_endian (take 1 (drop at s)) ≡ get_or s at 0
byte-number s at h = ap little_endian (run_is s at 1 (omega arith)) ∙ omega arith
