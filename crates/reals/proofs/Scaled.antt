-- Where A / C and B / C are m and n units, and L units make one, then A and B compare, add, subtract and leave remainders as m and n do.
use mathlib.Core.Path.{◌≡◌, refl, sym, ap, ap₂, ◌∙◌}
use mathlib.Core.Logic.{◌⊎◌, inl, inr}
use mathlib.Core.Bool.{Bool, true, false}
use Prim.Native.Nat.{ℕ, ◌+◌, ◌-◌, ◌*◌, ◌/◌, ◌%◌, ◌≤◌, ◌<◌}
use native.Mathlib.Nat.{mul_comm, mul_right_comm, mul-sub, add-mul, mul-le-mul_right, mul-lt-mul_of_pos_right, mul-div-mul_right, mod-eq-sub-mul-div}
use native.Mathlib.Nat.{eq_of_mul-eq-mul_right}
use lib.Dec.{ltb, eqb}
use borrow.Author.Tests.{lt-ltb, le-ltb, eqb-true, eqb-false, eq-eqb, ne_eqb}
use Rattle.reals.proofs.Grid.{split}

-- ---- a common factor
pub sub-mul : (x y c : ℕ) → (x - y) * c ≡ x * c - y * c
sub-mul x y c = mul_comm (x - y) c ∙ mul-sub c x y ∙ ap₂ ◌-◌ (mul_comm c x) (mul_comm c y)

pub mod-mul : (a b c : ℕ) → 0 < c → a * c % (b * c) ≡ a % b * c
mod-mul a b c p =
    mod-eq-sub-mul-div (a * c) (b * c)
    ∙ ap (λ (x : ℕ). a * c - b * c * x) (mul-div-mul_right a b p)
    ∙ ap (λ (x : ℕ). a * c - x) (mul_right_comm b c (a / b))
    ∙ sym (sub-mul a (b * (a / b)) c)
    ∙ ap (λ (x : ℕ). x * c) (sym (mod-eq-sub-mul-div a b))

ltb-mul : (a b c : ℕ) → 0 < c → ltb (a * c) (b * c) ≡ ltb a b
ltb-mul a b c p = go (split b a)
  where
    go : (b ≤ a) ⊎ (a < b) → ltb (a * c) (b * c) ≡ ltb a b
    go (inl h) = le-ltb (a * c) (b * c) (mul-le-mul_right c h) ∙ sym (le-ltb a b h)
    go (inr h) = lt-ltb (a * c) (b * c) (mul-lt-mul_of_pos_right h p) ∙ sym (lt-ltb a b h)

eqb-mul : (a b c : ℕ) → 0 < c → eqb (a * c) (b * c) ≡ eqb a b
eqb-mul a b c p = go (eqb a b) refl
  where
    go : (t : Bool) → eqb a b ≡ t → eqb (a * c) (b * c) ≡ t
    go true e = eq-eqb (a * c) (b * c) (ap (λ (x : ℕ). x * c) (eqb-true a b e))
    go false e = ne_eqb (a * c) (b * c) (λ d. eqb-false a b e (eq_of_mul-eq-mul_right c p a b d))

module _ (L C A B m n : ℕ) (x : A * L ≡ m * C) (y : B * L ≡ n * C) where
  pub sum_same : (A + B) * L ≡ (m + n) * C
  sum_same = add-mul A B L ∙ ap₂ ◌+◌ x y ∙ sym (add-mul m n C)

  pub difference-same : (A - B) * L ≡ (m - n) * C
  difference-same = sub-mul A B L ∙ ap₂ ◌-◌ x y ∙ sym (sub-mul m n C)

  module _ (P : 0 < L) (Q : 0 < C) where
    pub remainder-same : A % B * L ≡ m % n * C
    remainder-same = sym (mod-mul A B L P) ∙ ap₂ ◌%◌ x y ∙ mod-mul m n C Q

    pub less-same : ltb A B ≡ ltb m n
    less-same = sym (ltb-mul A B L P) ∙ ap₂ ltb x y ∙ ltb-mul m n C Q

    pub equal-same : eqb A B ≡ eqb m n
    equal-same = sym (eqb-mul A B L P) ∙ ap₂ eqb x y ∙ eqb-mul m n C Q
