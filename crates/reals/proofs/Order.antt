-- The order and the equality of two finite values are those of their signed sizes.
use mathlib.Core.Path.{◌≡◌, refl, sym, ap, ap₂, ◌∙◌, subst}
use mathlib.Core.Logic.{◌⊎◌, inl, inr, ◌↔◌}
use mathlib.Core.Bool.{Bool, true, false, ◌&&◌, ◌||◌, beq}
use Prim.Native.Nat.{ℕ, zero, suc, ◌+◌, ◌*◌, ◌^◌, ◌<◌}
use native.Mathlib.Nat.{zero-mul, zero-add, le_of_lt, eq-or-lt_of_le}
use native.Mathlib.Omega.{arith}
use lib.IntN.{ℤ, pos, negsuc, neg_ℤ, nat_abs, pos-ne-negsuc}
use lib.Signed.{lt_z, le_z, ≤ℤ_refl}
use lib.Dec.{T, ltb, eqb, eqb→eq, leb→le, le→leb, ltb→lt, lt→ltb, leb-suc-suc}
use lib.Pow.{pow_pos}
use borrow.Author.Tests.{lt-ltb, le-ltb}
use lib.Ieee.{Format, low, up, down, below, level, lt, eq, le}
use lib.Ieee.Fits.{and_i, and_l, and_r, eq→eqb}
use Rattle.reals.specs.Singles.{signed}
use Rattle.reals.proofs.Scaled.{sum_same, less-same, equal-same}
use Rattle.reals.proofs.Signed.{abs-signed}
use Rattle.reals.proofs.Ops.{Law, common, denominator}

-- ---- the library's tests on signed sizes
below-lt_z : (s : Bool) (m : ℕ) (t : Bool) (n : ℕ) → below s m t n ≡ lt_z (signed s m) (signed t n)
below-lt_z false m false n = refl
below-lt_z false m true zero = sym (le-ltb m 0 (omega arith))
below-lt_z false m true (suc n) = refl
below-lt_z true zero false n = ap (ltb 0) (zero-add n)
below-lt_z true (suc m) false n = lt-ltb 0 (suc m + n) (omega arith)
below-lt_z true zero true zero = refl
below-lt_z true zero true (suc n) = le-ltb (suc n) 0 (omega arith)
below-lt_z true (suc m) true zero = lt-ltb 0 (suc m) (omega arith)
below-lt_z true (suc m) true (suc n) = leb-suc-suc (suc n) m

level→same : (s : Bool) (m : ℕ) (t : Bool) (n : ℕ) → T (level s m t n) → signed s m ≡ signed t n
level→same s m t n h = go s t (eqb→eq m n (and_l (eqb m n) (beq s t || eqb m 0) h)) (and_r (eqb m n) (beq s t || eqb m 0) h)
  where
    zeros : (s : Bool) → m ≡ 0 → signed s m ≡ pos 0
    zeros true z = ap (signed true) z
    zeros false z = ap (signed false) z

    go : (s t : Bool) → m ≡ n → T (beq s t || eqb m 0) → signed s m ≡ signed t n
    go true true e h = ap (signed true) e
    go false false e h = ap (signed false) e
    go true false e h = zeros true (eqb→eq m 0 h) ∙ sym (zeros false (eqb→eq m 0 h)) ∙ ap (signed false) e
    go false true e h = zeros false (eqb→eq m 0 h) ∙ sym (zeros true (eqb→eq m 0 h)) ∙ ap (signed true) e

same→level : (s : Bool) (m : ℕ) (t : Bool) (n : ℕ) → signed s m ≡ signed t n → T (level s m t n)
same→level s m t n h = and_i (eqb m n) (beq s t || eqb m 0) (eq→eqb e) (go s t h)
  where
    e : m ≡ n
    e = sym (abs-signed s m) ∙ ap nat_abs h ∙ abs-signed t n

    none : (k l : ℕ) → neg_ℤ (pos k) ≡ pos l → k ≡ 0
    none zero l h = refl
    none (suc k) l h = absurd (pos-ne-negsuc l k (sym h))

    go : (s t : Bool) → signed s m ≡ signed t n → T (beq s t || eqb m 0)
    go true true h = tt
    go false false h = tt
    go true false h = eq→eqb (none m n h)
    go false true h = eq→eqb (e ∙ none n m (sym h))

-- ---- they give the same on the library's numerators A and B over C as on the sizes m and n
module _ (L C A B m n : ℕ) (P : 0 < L) (Q : 0 < C) (x : A * L ≡ m * C) (y : B * L ≡ n * C) where
  none : 0 * L ≡ 0 * C
  none = zero-mul L ∙ sym (zero-mul C)

  below-same : (s t : Bool) → below s A t B ≡ below s m t n
  below-same false false = less-same L C A B m n x y P Q
  below-same false true = refl
  below-same true false = less-same L C 0 (A + B) 0 (m + n) none (sum_same L C A B m n x y) P Q
  below-same true true = less-same L C B A n m y x P Q

  level-same : (s t : Bool) → level s A t B ≡ level s m t n
  level-same s t = ap₂ (λ (a b : Bool). a && (beq s t || b)) (equal-same L C A B m n x y P Q) (equal-same L C A 0 m 0 x none P Q)

pub lt-is : (f : Format) → Law f (λ s m t n x y. lt x y ≡ lt_z (signed s m) (signed t n))
unfolding lt
lt-is f = common f _
    (λ s M e m t N d n h k. below-same (2 ^ low f) (down e * down d) (M * up e * down d) (N * up d * down e) m n (pow_pos (low f)) (denominator e d) h k s t
    ∙ below-lt_z s m t n)

pub eq_is : (f : Format) → Law f (λ s m t n x y. T (eq x y) ↔ (signed s m ≡ signed t n))
unfolding eq
eq_is f = common f _
    (λ s M e m t N d n h k.
    let w = level-same (2 ^ low f) (down e * down d) (M * up e * down d) (N * up d * down e) m n (pow_pos (low f)) (denominator e d) h k s t in
    (λ z. level→same s m t n (subst T w z), λ z. subst T (sym w) (same→level s m t n z)))

-- ---- at most: less or equal
less→most : (a b : ℤ) → T (lt_z a b) → T (le_z a b)
less→most (pos a) (pos b) h = le→leb a b (le_of_lt (ltb→lt a b h))
less→most (pos a) (negsuc b) h = absurd h
less→most (negsuc a) (pos b) h = tt
less→most (negsuc a) (negsuc b) h = le→leb b a (le_of_lt (ltb→lt b a h))

most→either : (a b : ℤ) → T (le_z a b) → T (lt_z a b) ⊎ (a ≡ b)
most→either (pos a) (pos b) h = elim (eq-or-lt_of_le (leb→le a b h)) [ inl e ↦ inr (ap pos e) | inr l ↦ inl (lt→ltb a b l) ]
most→either (pos a) (negsuc b) h = absurd h
most→either (negsuc a) (pos b) h = inl tt
most→either (negsuc a) (negsuc b) h = elim (eq-or-lt_of_le (leb→le b a h)) [ inl e ↦ inr (ap negsuc (sym e)) | inr l ↦ inl (lt→ltb b a l) ]

either_is : (a b : ℤ) (u v : Bool) → u ≡ lt_z a b → T v ↔ (a ≡ b) → u || v ≡ le_z a b
either_is a b u v e w = go u v (le_z a b) (λ h. less→most a b (subst T e h)) (λ h. subst (λ (c : ℤ). T (le_z a c)) (w.0 h) (≤ℤ_refl a).le) back
  where
    back : T (le_z a b) → T u ⊎ T v
    back h = elim (most→either a b h) [ inl l ↦ inl (subst T (sym e) l) | inr l ↦ inr (w.1 l) ]

    go : (u v c : Bool) → (T u → T c) → (T v → T c) → (T c → T u ⊎ T v) → u || v ≡ c
    go true v true p q r = refl
    go true v false p q r = absurd (p tt)
    go false true true p q r = refl
    go false true false p q r = absurd (q tt)
    go false false false p q r = refl
    go false false true p q r = elim (r tt) [ inl h ↦ absurd h | inr h ↦ absurd h ]

pub le_is : (f : Format) → Law f (λ s m t n x y. le x y ≡ le_z (signed s m) (signed t n))
unfolding le
le_is f x y s m t n h k = either_is (signed s m) (signed t n) (lt x y) (eq x y) (lt-is f x y s m t n h k) (eq_is f x y s m t n h k)
