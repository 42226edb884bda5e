-- Whole numbers by sign and size: their signs, sums, multiples and order.
use mathlib.Core.Path.{◌≡◌, refl, sym, ap, ◌∙◌}
use mathlib.Core.Bool.{Bool, true, false, cond, ◌&&◌, not}
use Prim.Native.Nat.{ℕ, zero, suc, ◌+◌, ◌-◌, ◌*◌, ◌≤◌, zero-le, suc-le-suc}
use native.Mathlib.Nat.{zero-lt-suc, le_of_suc-le-suc, not-suc-le-zero}
use native.Mathlib.Omega.{arith}
use lib.IntN.{ℤ, pos, negsuc, neg_ℤ, nat_abs, ◌+ℤ◌, ◌*ℤ◌, +ℤ_comm, neg_ℤ-+ℤ, neg_ℤ-neg_ℤ}
use lib.Signed.{le_z}
use lib.Dec.{T, ltb, leb→le, le→leb}
use borrow.Author.Tests.{lt-ltb, le-ltb}
use Rattle.reals.specs.Singles.{signed}
use Rattle.reals.specs.Operations.{sign_of}

-- ---- the size and the sign
pub abs-signed : (s : Bool) (k : ℕ) → nat_abs (signed s k) ≡ k
abs-signed false k = refl
abs-signed true zero = refl
abs-signed true (suc k) = refl

-- a zero has the sign that it is given, and every other number its own
pub sign_kept : (s : Bool) (k : ℕ) → sign_of s (signed s k) ≡ s
sign_kept false zero = refl
sign_kept false (suc k) = refl
sign_kept true zero = refl
sign_kept true (suc k) = refl

pub sign-unless : (s : Bool) (k : ℕ) → sign_of false (signed s k) ≡ s && ltb 0 k
sign-unless false zero = refl
sign-unless false (suc k) = refl
sign-unless true zero = refl
sign-unless true (suc k) = sym (lt-ltb 0 (suc k) (zero-lt-suc k))

pub neg-signed : (s : Bool) (n : ℕ) → signed (not s) n ≡ neg_ℤ (signed s n)
neg-signed true n = sym (neg_ℤ-neg_ℤ (pos n))
neg-signed false n = refl

pub signed-times : (z : ℤ) (k : ℕ) → signed (sign_of false z) (nat_abs z * k) ≡ z *ℤ pos k
signed-times (pos zero) k = refl
signed-times (pos (suc n)) k = refl
signed-times (negsuc n) k = refl

-- ---- sums, of one sign and of both
pub same_sign : (s : Bool) (m n : ℕ) → signed s m +ℤ signed s n ≡ signed s (m + n)
same_sign false m n = refl
same_sign true m n = sym (neg_ℤ-+ℤ (pos m) (pos n))

minus : (m n : ℕ) → n ≤ m → pos m +ℤ neg_ℤ (pos n) ≡ pos (m - n)
minus m zero h = ap pos (same m)
  where
    same : (m : ℕ) → m + 0 ≡ m - 0
    same m = omega arith
minus m (suc n) h = ap (λ (t : Bool). cond t (negsuc (suc n - suc m)) (pos (m - suc n))) (le-ltb m (suc n) h)

pub first-larger : (s : Bool) (m n : ℕ) → n ≤ m → signed s m +ℤ signed (not s) n ≡ signed s (m - n)
first-larger false m n h = minus m n h
first-larger true m n h = ap (λ (z : ℤ). neg_ℤ (pos m) +ℤ z) (sym (neg_ℤ-neg_ℤ (pos n))) ∙ sym (neg_ℤ-+ℤ (pos m) (neg_ℤ (pos n))) ∙ ap neg_ℤ (minus m n h)

pub second-larger : (s : Bool) (m n : ℕ) → m ≤ n → signed s m +ℤ signed (not s) n ≡ signed (not s) (n - m)
second-larger false m n h = +ℤ_comm (pos m) (neg_ℤ (pos n)) ∙ first-larger true n m h
second-larger true m n h = +ℤ_comm (neg_ℤ (pos m)) (pos n) ∙ first-larger false n m h

-- ---- order
across : (m n : ℕ) → T (le_z (signed true m) (signed false n))
across zero n = le→leb 0 n zero-le
across (suc m) n = tt

falling : (m n : ℕ) → n ≤ m → T (le_z (signed true m) (signed true n))
falling zero zero h = tt
falling zero (suc n) h = absurd (not-suc-le-zero h)
falling (suc m) zero h = tt
falling (suc m) (suc n) h = le→leb n m (le_of_suc-le-suc h)

-- y and z keep their order where each keeps its sign and their sizes keep theirs
pub in_order : (y z : ℤ) (m n : ℕ) → (nat_abs y ≤ nat_abs z → m ≤ n) → (nat_abs z ≤ nat_abs y → n ≤ m) → T (le_z y z)
    → T (le_z (signed (sign_of false y) m) (signed (sign_of false z) n))
in_order (pos a) (pos b) m n up down h = rw (sign_kept false a, sign_kept false b) (le→leb m n (up (leb→le a b h)))
in_order (pos a) (negsuc b) m n up down h = absurd h
in_order (negsuc a) (pos b) m n up down h = rw (sign_kept false b) (across m n)
in_order (negsuc a) (negsuc b) m n up down h = falling m n (down (suc-le-suc (leb→le b a h)))
