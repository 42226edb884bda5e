-- The library's sum of two signed sizes is their sum as whole numbers, rounded once; a sum of zero is negative only where both are.
use mathlib.Core.Path.{◌≡◌, sym, ap, ◌∙◌, subst₂}
use mathlib.Core.Logic.{◌⊎◌, inl, inr}
use mathlib.Core.Bool.{Bool, true, false, cond, ◌&&◌, not, and-true}
use Prim.Native.Nat.{ℕ, ◌+◌, ◌-◌, ◌*◌, ◌^◌, ◌≤◌, ◌<◌}
use native.Mathlib.Nat.{le_of_lt, mul-one, zero-lt-suc}
use native.Mathlib.Omega.{arith}
use lib.IntN.{ℤ, nat_abs, ◌+ℤ◌}
use lib.Dec.{ltb}
use lib.Pow.{pow_pos}
use borrow.Author.Tests.{lt-ltb, le-ltb}
use lib.Ieee.{Float, Format, low, round, sum}
use Rattle.reals.specs.Singles.{signed}
use Rattle.reals.specs.Operations.{sign_of}
use Rattle.reals.proofs.Near.{Rounded}
use Rattle.reals.proofs.Signed.{abs-signed, sign_kept, sign-unless, same_sign, first-larger, second-larger}
use Rattle.reals.proofs.Grid.{split}
use Rattle.reals.proofs.Scaled.{sum_same, difference-same, less-same}
use Rattle.reals.proofs.Same.{rounded-at}

-- A / C and B / C are m and n units; r is z units, rounded, and has the sign s where z is zero
abbrev Goal : Format → Bool → ℤ → Float → Type 0
Goal f s z r = Rounded f (sign_of s z) (nat_abs z) 1 r

module _ (f : Format) (C : ℕ) (Q : 0 < C) where
  -- the difference of a larger and a smaller one, with the larger one's sign
  difference : (s : Bool) (A B m n : ℕ) → A * 2 ^ low f ≡ m * C → B * 2 ^ low f ≡ n * C → Goal f false (signed s (m - n)) (round f (s && ltb B A) (A - B) C)
  difference s A B m n x y =
      subst₂ (λ (t : Bool) (k : ℕ). Rounded f t k 1 (round f (s && ltb B A) (A - B) C))
      (ap (λ (t : Bool). s && t) (less-same (2 ^ low f) C B A n m y x (pow_pos (low f)) Q ∙ positive m n) ∙ sym (sign-unless s (m - n)))
      (sym (abs-signed s (m - n)))
      (rounded-at f (s && ltb B A) (A - B) C (m - n) 1 Q (zero-lt-suc 0) (mul-one ((A - B) * 2 ^ low f) ∙ difference-same (2 ^ low f) C A B m n x y))
    where
      positive : (m n : ℕ) → ltb n m ≡ ltb 0 (m - n)
      positive m n = go (split m n)
        where
          go : (m ≤ n) ⊎ (n < m) → ltb n m ≡ ltb 0 (m - n)
          go (inl h) = le-ltb n m h ∙ sym (le-ltb 0 (m - n) (omega arith))
          go (inr h) = lt-ltb n m h ∙ sym (lt-ltb 0 (m - n) (omega arith))

  module _ (A B m n : ℕ) (x : A * 2 ^ low f ≡ m * C) (y : B * 2 ^ low f ≡ n * C) where
    equal-signs : (s : Bool) → Goal f s (signed s m +ℤ signed s n) (round f s (A + B) C)
    equal-signs s =
        rw (same_sign s m n, sign_kept s (m + n), abs-signed s (m + n))
        (rounded-at f s (A + B) C (m + n) 1 Q (zero-lt-suc 0) (mul-one ((A + B) * 2 ^ low f) ∙ sum_same (2 ^ low f) C A B m n x y))

    opposite-signs : (s : Bool) → Goal f false (signed s m +ℤ signed (not s) n) (cond (ltb A B) (round f (not s) (B - A) C) (round f (s && ltb B A) (A - B) C))
    opposite-signs s = go (split n m)
      where
        test : ltb A B ≡ ltb m n
        test = less-same (2 ^ low f) C A B m n x y (pow_pos (low f)) Q

        go : (n ≤ m) ⊎ (m < n) → Goal f false (signed s m +ℤ signed (not s) n) (cond (ltb A B) (round f (not s) (B - A) C) (round f (s && ltb B A) (A - B) C))
        go (inl h) = rw (test ∙ le-ltb m n h, first-larger s m n h) (difference s A B m n x y)
        go (inr h) = rw (test ∙ lt-ltb m n h, second-larger s m n (le_of_lt h)) (rw (test ∙ lt-ltb m n h, and-true) at (difference (not s) B A n m y x))

    pub sum-rounded : (s t : Bool) → Goal f (s && t) (signed s m +ℤ signed t n) (sum f s A t B C)
    unfolding sum
    sum-rounded false false = equal-signs false
    sum-rounded true true = equal-signs true
    sum-rounded false true = opposite-signs false
    sum-rounded true false = opposite-signs true
