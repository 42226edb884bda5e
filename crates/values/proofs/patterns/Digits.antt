-- A number and its binary digits: each is made of the other, so that a number given by its digits has those digits.
use Rattle.std.proofs.Common.{◌≡◌, ℕ, zero, suc, ◌+◌, ◌-◌, ◌*◌, ◌/◌, ◌%◌, ◌^◌, ◌<◌, sym, refl, ap, ◌∙◌, ap₂, ⊎_elim, le_of_suc-le-suc, not-suc-le-zero, mul-le-mul_right, mod-lt, mod-eq_of_lt, add_comm, eq-or-lt_of_le, pow-suc, one-add, arith, lit<}
use native.Mathlib.Nat.{mod-one}
use lib.Pow.{high, low, mod-pow-add}
use Rattle.values.specs.Patterns.{digit, from_digits}

pub digit_lt : (n i : ℕ) → digit n i < 2
digit_lt n i = mod-lt (n / 2 ^ i) (lit< tt)

-- the digits of n make n, as far as they go
pub number_digits : (n k : ℕ) → from_digits k (digit n) ≡ n % 2 ^ k
number_digits n zero = sym (mod-one n)
number_digits n (suc k) =
    ap (λ (x : ℕ). x + digit n k * 2 ^ k) (number_digits n k)
    ∙ add_comm (n % 2 ^ k) (digit n k * 2 ^ k)
    ∙ sym (mod-pow-add n 1 k)
    ∙ ap (λ (x : ℕ). n % 2 ^ x) (one-add k)

pub number_same : (k : ℕ) (d e : ℕ → ℕ) → ((i : ℕ) → d i ≡ e i) → from_digits k d ≡ from_digits k e
number_same zero d e h = refl
number_same (suc k) d e h = ap₂ (λ (x y : ℕ). x + y * 2 ^ k) (number_same k d e h) (h k)

module _ (d : ℕ → ℕ) (small : (i : ℕ) → d i < 2) where
  number_lt : (k : ℕ) → from_digits k d < 2 ^ k
  number_lt zero = lit< tt
  number_lt (suc k) =
      omega (arith, number_lt k, pow-suc 2 k, mul-le-mul_right (2 ^ k) (le_of_suc-le-suc (small k)))

  top : (k : ℕ) → from_digits (suc k) d / 2 ^ k ≡ d k
  top k = ap (λ (x : ℕ). x / 2 ^ k) (add_comm (from_digits k d) (d k * 2 ^ k)) ∙ high (d k) k (number_lt k)

  rest : (k : ℕ) → from_digits (suc k) d % 2 ^ k ≡ from_digits k d
  rest k = ap (λ (x : ℕ). x % 2 ^ k) (add_comm (from_digits k d) (d k * 2 ^ k)) ∙ low (d k) k (number_lt k)

-- two numbers are equal only if their digits are
same_digits : (d e : ℕ → ℕ) → ((i : ℕ) → d i < 2) → ((i : ℕ) → e i < 2) → (k i : ℕ) → i < k → from_digits k d ≡ from_digits k e → d i ≡ e i
same_digits d e s t zero i h q = absurd (not-suc-le-zero h)
same_digits d e s t (suc k) i h q =
    ⊎_elim
    (λ p. ap d p ∙ sym (top d s k) ∙ ap (λ (x : ℕ). x / 2 ^ k) q ∙ top e t k ∙ sym (ap e p))
    (λ l. same_digits d e s t k i l (sym (rest d s k) ∙ ap (λ (x : ℕ). x % 2 ^ k) q ∙ rest e t k))
    (eq-or-lt_of_le (le_of_suc-le-suc h))

-- what `from_digits` means: place i of the number has the digit d i
pub digit-number : (d : ℕ → ℕ) → ((i : ℕ) → d i < 2) → (k i : ℕ) → i < k → digit (from_digits k d) i ≡ d i
digit-number d s k i h =
    same_digits (digit (from_digits k d)) d (digit_lt (from_digits k d)) s k i h
    (number_digits (from_digits k d) k ∙ mod-eq_of_lt (number_lt d s k))

-- ---- every digit turned over
turned : (d p : ℕ) → d < 2 → (1 - d) * p + d * p ≡ p
turned zero p h = omega arith
turned (suc zero) p h = omega arith
turned (suc (suc d)) p h = omega arith

number-turned : (d : ℕ → ℕ) → ((i : ℕ) → d i < 2) → (k : ℕ) → from_digits k (λ i. 1 - d i) + from_digits k d + 1 ≡ 2 ^ k
number-turned d s zero = refl
number-turned d s (suc k) = omega (arith, number-turned d s k, turned (d k) (2 ^ k) (s k), pow-suc 2 k)

pub complement-number : (n k : ℕ) → n < 2 ^ k → from_digits k (λ i. 1 - digit n i) ≡ 2 ^ k - 1 - n
complement-number n k h =
    omega (arith, number-turned (digit n) (digit_lt n) k, number_digits n k, mod-eq_of_lt h)
