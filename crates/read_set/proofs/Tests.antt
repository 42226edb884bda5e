-- Tests of numbers and their joins.
use mathlib.Core.Path.{◌≡◌, refl, sym}
use mathlib.Core.Bool.{Bool, true, false, ◌&&◌, ◌||◌}
use Prim.Native.Nat.{ℕ, ◌+◌, ◌≤◌}
use native.Mathlib.Omega.{arith}
use lib.Dec.{eqb, ltb, leb}
use borrow.Author.Tests.{ltb-true, ltb-false, leb-true, leb-false, eqb-true, eqb-false, lt-ltb, le-ltb, le-leb, lt-leb}

pub or_swap : (a b c : Bool) → ((a || b) || c) ≡ ((a || c) || b)
or_swap true b c = refl
or_swap false true true = refl
or_swap false true false = refl
or_swap false false true = refl
or_swap false false false = refl

-- moved by f
pub leb-moved : (f i j : ℕ) → leb i j ≡ leb (f + i) (f + j)
leb-moved f i j = by (leb i j) refl
  where
    by : (t : Bool) → leb i j ≡ t → t ≡ leb (f + i) (f + j)
    by true e = let h = leb-true i j e in sym (le-leb (f + i) (f + j) (omega arith))
    by false e = let h = leb-false i j e in sym (lt-leb (f + i) (f + j) (omega arith))

pub ltb-moved : (f i n j : ℕ) → ltb j (i + n) ≡ ltb (f + j) (f + i + n)
ltb-moved f i n j = by (ltb j (i + n)) refl
  where
    by : (t : Bool) → ltb j (i + n) ≡ t → t ≡ ltb (f + j) (f + i + n)
    by true e = let h = ltb-true j (i + n) e in sym (lt-ltb (f + j) (f + i + n) (omega arith))
    by false e = let h = ltb-false j (i + n) e in sym (le-ltb (f + j) (f + i + n) (omega arith))

-- a range of one
pub one-long : (i j : ℕ) → eqb i j ≡ (leb i j && ltb j (i + 1))
one-long i j = by (eqb i j) (leb i j) refl refl
  where
    by : (t u : Bool) → eqb i j ≡ t → leb i j ≡ u → t ≡ (u && ltb j (i + 1))
    by true true e q = let h = eqb-true i j e in sym (lt-ltb j (i + 1) (omega arith))
    by true false e q = let h = eqb-true i j e in let l = leb-false i j q in absurd (omega arith)
    by false true e q = let l = leb-true i j q in let h = eqb-false i j e in sym (le-ltb j (i + 1) (omega (arith, apart i j l h)))
      where
        apart : (a b : ℕ) → a ≤ b → (a ≡ b → ⊥) → a + 1 ≤ b
        apart a b m d = omega arith
    by false false e q = refl
