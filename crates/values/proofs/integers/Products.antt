-- A product of three integers, and of two powers of one.
use Rattle.std.proofs.Common.{◌≡◌, ℕ, zero, suc, ◌+◌, ℤ, pos, negsuc, ◌*ℤ◌, neg_ℤ, sym, ap, ◌∙◌, mul_assoc, arith}
use lib.IntN.{one, neg_ℤ-neg_ℤ, *ℤ-one, *ℤ-zero, *ℤ-negsuc, *ℤ_comm}
use Rattle.values.specs.Integers.{pow_z}

-- ---- a sign moves out of a product
mul-neg : (x y : ℤ) → x *ℤ neg_ℤ y ≡ neg_ℤ (x *ℤ y)
mul-neg x (pos zero) = *ℤ-zero x ∙ ap neg_ℤ (sym (*ℤ-zero x))
mul-neg x (pos (suc n)) = *ℤ-negsuc x n
mul-neg x (negsuc n) = sym (neg_ℤ-neg_ℤ (x *ℤ pos (suc n))) ∙ ap neg_ℤ (sym (*ℤ-negsuc x n))

neg-mul : (x y : ℤ) → neg_ℤ x *ℤ y ≡ neg_ℤ (x *ℤ y)
neg-mul x y = *ℤ_comm (neg_ℤ x) y ∙ mul-neg y x ∙ ap neg_ℤ (*ℤ_comm y x)

-- two odd functions that agree on the natural numbers agree
abbrev Odd : (ℤ → ℤ) → Type 0
Odd f = (z : ℤ) → f (neg_ℤ z) ≡ neg_ℤ (f z)

agree : (f g : ℤ → ℤ) → Odd f → Odd g → ((n : ℕ) → f (pos n) ≡ g (pos n)) → (z : ℤ) → f z ≡ g z
agree f g p q e (pos n) = e n
agree f g p q e (negsuc n) = p (pos (suc n)) ∙ ap neg_ℤ (e (suc n)) ∙ sym (q (pos (suc n)))

mul-assoc-ℤ : (x y z : ℤ) → (x *ℤ y) *ℤ z ≡ x *ℤ (y *ℤ z)
mul-assoc-ℤ x y z =
    agree (λ a. (a *ℤ y) *ℤ z) (λ a. a *ℤ (y *ℤ z)) (λ a. ap (λ b. b *ℤ z) (neg-mul a y) ∙ neg-mul (a *ℤ y) z) (λ a. neg-mul a (y *ℤ z))
    (λ l. agree (λ b. (pos l *ℤ b) *ℤ z) (λ b. pos l *ℤ (b *ℤ z))
    (λ b. ap (λ a. a *ℤ z) (mul-neg (pos l) b) ∙ neg-mul (pos l *ℤ b) z)
    (λ b. ap (λ a. pos l *ℤ a) (neg-mul b z) ∙ mul-neg (pos l) (b *ℤ z))
    (λ m. agree (λ c. (pos l *ℤ pos m) *ℤ c) (λ c. pos l *ℤ (pos m *ℤ c))
    (mul-neg (pos l *ℤ pos m))
    (λ c. ap (λ a. pos l *ℤ a) (mul-neg (pos m) c) ∙ mul-neg (pos l) (pos m *ℤ c))
    (λ n. ap pos (mul_assoc l m n)) z) y) x

-- ---- powers of one base
add-suc : (m n : ℕ) → suc (m + n) ≡ m + suc n
add-suc m n = omega arith

add_none : (m : ℕ) → m ≡ m + 0
add_none m = omega arith

pub add-power : (a : ℤ) (m n : ℕ) → pow_z a m *ℤ pow_z a n ≡ pow_z a (m + n)
unfolding one
add-power a m zero = *ℤ-one (pow_z a m) ∙ ap (pow_z a) (add_none m)
add-power a m (suc n) =
    sym (mul-assoc-ℤ (pow_z a m) (pow_z a n) a) ∙ ap (λ z. z *ℤ a) (add-power a m n) ∙ ap (pow_z a) (add-suc m n)

pub first-power : (a : ℤ) → a ≡ pow_z a 1
unfolding one
first-power a = sym (*ℤ-one a) ∙ *ℤ_comm a (pos 1)
