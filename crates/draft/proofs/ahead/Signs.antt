-- Where a unary operator stands, and where none does.
use mathlib.Core.Path.{◌≡◌, refl, ap, ◌∙◌}
use mathlib.Core.Bool.{Bool, true, false, cond}
use mathlib.Core.List.{List}
use Prim.Native.Nat.{ℕ, ◌%◌, ◌≤◌, ◌<◌}
use native.Mathlib.Omega.{arith}
use lib.Dec.{eqb, ltb}
use lib.ListN.{length, get_or-eq_default}
use borrow.Author.Tests.{ltb-true, ltb-false}
use Rattle.token_table.specs.private.Table.{word_at}
use Rattle.draft.specs.private.Words.{prefix_number}

sign-within : (s : List ℕ) (i : ℕ) → prefix_number (word_at s i) < 3 → i < length s
sign-within s i h = go (ltb i (length s)) refl
  where
    go : (t : Bool) → ltb i (length s) ≡ t → i < length s
    go true q = ltb-true i (length s) q
    go false q =
        let z : word_at s i ≡ 0 = get_or-eq_default s 0 (ltb-false i (length s) q) in
        let k : prefix_number 0 < 3 = rw z at h in
        absurd (omega arith)

sign-none : (w : ℕ) → 3 ≤ prefix_number w → prefix_number w ≡ 3
sign-none w = go (eqb (w % 65536) 1286) (eqb (w % 65536) 5126) (eqb (w % 65536) 5382)
  where
    go : (x y z : Bool) → 3 ≤ cond x 0 (cond y 1 (cond z 2 3)) → ◌≡◌ {A = ℕ} (cond x 0 (cond y 1 (cond z 2 3))) 3
    go true y z h = absurd (omega arith)
    go false true z h = absurd (omega arith)
    go false false true h = absurd (omega arith)
    go false false false h = refl

-- the word w at i, whose operator has the number n
module _ (s : List ℕ) (i : ℕ) {w n : ℕ} (q : w ≡ word_at s i) (r : n ≡ prefix_number w) where
  here : n ≡ prefix_number (word_at s i)
  here = r ∙ ap prefix_number q

  pub sign-here : n < 3 → (i < length s) × (prefix_number (word_at s i) < 3)
  sign-here h = let k = rw here at h in (sign-within s i k, k)

  pub sign-stops : 3 ≤ n → prefix_number (word_at s i) ≡ 3
  sign-stops h = sign-none (word_at s i) (rw here at h)

-- behind the table
pub sign-behind : (s : List ℕ) (i : ℕ) → length s ≤ i → prefix_number (word_at s i) ≡ 3
sign-behind s i h = let z : word_at s i ≡ 0 = get_or-eq_default s 0 h in rw z refl
