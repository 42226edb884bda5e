-- A power by the binary digits of its exponent, the highest first: what is held on the way, and how many multiplications made it.
use Rattle.std.proofs.Common.{◌≡◌, ℕ, suc, ◌+◌, ◌*◌, ◌/◌, ◌%◌, ◌^◌, ◌<◌, ◌≤◌, true, false, ℤ, pos, ◌*ℤ◌, sym, refl, ap, ◌∙◌, subst, zero-le, le_trans, le_of_suc-le-suc, lt_of_le_of_lt, pow-suc, lt_of_not-le, div-le_self, not-le_of_lt, add-one, arith, lit<, pow_mono, w32, SFits, le-leb}
use native.Mathlib.Nat.{div-eq_of_lt-le, div-div-eq-div-mul}
use lib.Dec.{leb-zero}
use lib.Count.{count_leading_zeros, leading_top}
use Rattle.values.specs.declared.Value.TheVariants.{Int}
use Rattle.values.specs.declared.Fault.TheVariants.{Overflow, OutOfRange}
use Rattle.values.specs.declared.Outcome.{Outcome}
use Rattle.values.specs.declared.Outcome.TheVariants.{Done, Stopped}
use Rattle.values.specs.Integers.{in_range, exact_int, exponent, pow_z}
use Rattle.values.specs.Multiplications.{Chain, one, base, square, factor, PowerCount}
use Rattle.values.proofs.Ranges.{range-sfits}
use Rattle.values.proofs.integers.Powers.{stays-outside}
use Rattle.values.proofs.integers.Products.{add-power, first-power}
use Rattle.values.proofs.integers.Results.{exact-within}

-- ---- on the way: z is a to the power e, and k multiplications made it
pub record Partial (a : ℤ) (e : ℕ) (z : ℤ) (k : ℕ) : Type 0 where
  pub power : z ≡ pow_z a e
  pub chain : Chain a k z

partial-base : (a : ℤ) → Partial a 1 a 0
partial-base a = record { power = first-power a; chain = base }

-- one multiplication more, as `times` gives it: the product v and the count i
module _ (a : ℤ) (e : ℕ) (z : ℤ) (k : ℕ) (H : Partial a e z k) (v : ℤ) (i : ℕ) where
  given : (m : ℕ) (x : ℤ) → (v ≡ x) × (i ≡ k + 1) → Partial a m x (suc k) → Partial a m v i
  given m x s G = subst (λ y. Partial a m y i) (sym s.0) (subst (λ c. Partial a m x c) (sym (s.1 ∙ add-one k)) G)

  partial-square : (v ≡ z *ℤ z) × (i ≡ k + 1) → Partial a (e + e) v i
  partial-square s =
      given (e + e) (z *ℤ z) s (record { power = ap (λ x. x *ℤ x) H.power ∙ add-power a e e; chain = square H.chain })

  partial-factor : (v ≡ z *ℤ a) × (i ≡ k + 1) → Partial a (suc e) v i
  partial-factor s = given (suc e) (z *ℤ a) s (record { power = ap (λ x. x *ℤ a) H.power; chain = factor H.chain })

-- ---- what the contract asks of an exponent from 0 to 64
exponent-within : (n : ℕ) → n ≤ 64 → exponent (pos n) ≡ true
exponent-within n h = rw (leb-zero n) (le-leb n 64 h)

module _ (a : ℤ) (n : ℕ) (h : n ≤ 64) where
  -- a product whose outcome is the power's
  counted : (o : Outcome) (k : ℕ) (z : ℤ) → Chain a k z → k ≤ 12 → o ≡ exact_int z → o ≡ exact_int (pow_z a n) → PowerCount a (pos n) o k
  counted o k z c f p q =
      record { power = rw (exponent-within n h) q; product = z; chain = c; exact = rw (exponent-within n h) p; few = f }

  -- one of no more factors than the power has, which leaves 32 bits
  outside-count : (e : ℕ) (z : ℤ) (k : ℕ) → Partial a e z k → e ≤ n → k ≤ 12 → in_range z ≡ false
      → PowerCount a (pos n) (Stopped Overflow) k
  outside-count e z k H l f t =
      let u : in_range (pow_z a n) ≡ false = stays-outside a e n l (subst (λ x. in_range x ≡ false) H.power t) in
      counted (Stopped Overflow) k z H.chain f (rw t) (rw u)

  whole-count : (z : ℤ) (k : ℕ) → Partial a n z k → k ≤ 12 → SFits w32 z → PowerCount a (pos n) (Done (Int z)) k
  whole-count z k H f F = counted (Done (Int z)) k z H.chain f (exact-within z F) (exact-within z F ∙ ap exact_int H.power)

-- ---- no multiplication: an exponent that is refused, and 0
pub refused-count : (a n : ℤ) → exponent n ≡ false → PowerCount a n (Stopped OutOfRange) 0
refused-count a n e = record { power = rw e; product = a; chain = base; exact = rw e; few = zero-le }

pub zero-count : (a : ℤ) → PowerCount a (pos 0) (Done (Int (pos 1))) 0
zero-count a = whole-count a 0 zero-le (pos 1) 0 (record { power = refl; chain = one }) zero-le (record { sfits = lit< tt })

-- ---- the binary digits of n, of which l are left
pub record Reached (a : ℤ) (n l : ℕ) (z : ℤ) (k : ℕ) : Type 0 where
  pub partial : Partial a (n / 2 ^ l) z k
  pub fits : SFits w32 z
  pub few : k + 2 * l ≤ 12

-- the highest digit, with l below it
module _ (a : ℤ) (n : ℕ) (some : 0 < n) (bits : n < 2 ^ 32) (small : n ≤ 64) where
  top : (j : ℕ) × (count_leading_zeros 32 n + suc j ≡ 32) × (2 ^ j ≤ n) × (n < 2 ^ suc j)
  top = leading_top 32 n some bits

  pub zeros-le : count_leading_zeros 32 n ≤ 31
  zeros-le = omega (arith, top.1)

  first-digit : 1 ≡ n / 2 ^ top.0
  first-digit = sym (div-eq_of_lt-le (2 ^ top.0) (omega (arith, top.2)) (omega (arith, top.3, pow-suc 2 top.0)))

  low : top.0 ≤ 6
  low = le_of_suc-le-suc (lt_of_not-le (λ g. not-le_of_lt (lt_of_le_of_lt small (lit< tt)) (le_trans (pow_mono g) top.2)))

  pub reached-first : (l : ℕ) → count_leading_zeros 32 n + l ≡ 31 → SFits w32 a → Reached a n l a 0
  reached-first l e F =
      let i : top.0 ≡ l = omega (arith, top.1) in
      subst (λ j. Reached a n j a 0) i
      (record { partial = subst (λ m. Partial a m a 0) first-digit (partial-base a); fits = F; few = omega (arith, low) })

-- one digit more, of l + 1: it is the lowest of n / 2 ^ l
module _ (a : ℤ) (n l : ℕ) (z : ℤ) (k : ℕ) (R : Reached a n (suc l) z k) (small : n ≤ 64) where
  halves : n / 2 ^ l ≡ n / 2 ^ suc l + n / 2 ^ suc l + n / 2 ^ l % 2
  halves =
      let e : n / 2 ^ suc l ≡ n / 2 ^ l / 2 = ap (λ x. n / x) (pow-suc 2 l) ∙ sym (div-div-eq-div-mul n (2 ^ l) 2) in
      rw e (omega arith)

  -- v, the square
  module _ (v : ℤ) (i : ℕ) (s : (v ≡ z *ℤ z) × (i ≡ k + 1)) where
    squared : Partial a (n / 2 ^ suc l + n / 2 ^ suc l) v i
    squared = partial-square a (n / 2 ^ suc l) z k R.partial v i s

    pub square-few : i < 12
    square-few = omega (arith, R.few)

    pub square-outside : in_range v ≡ false → PowerCount a (pos n) (Stopped Overflow) i
    square-outside =
        outside-count a n small (n / 2 ^ suc l + n / 2 ^ suc l) v i squared (omega (arith, halves, div-le_self n (2 ^ l)))
        (omega (arith, R.few))

    pub reached-even : (n / 2 ^ l % 2 ≡ 1 → ⊥) → in_range v ≡ true → Reached a n l v i
    reached-even o t =
        let e : n / 2 ^ suc l + n / 2 ^ suc l ≡ n / 2 ^ l = omega (arith, halves) in
        record { partial = subst (λ m. Partial a m v i) e squared; fits = range-sfits v t; few = omega (arith, R.few) }

    -- w, the square times the base
    module _ (w : ℤ) (j : ℕ) (f : (w ≡ v *ℤ a) × (j ≡ i + 1)) (o : n / 2 ^ l % 2 ≡ 1) where
      multiplied : Partial a (n / 2 ^ l) w j
      multiplied =
          let e : suc (n / 2 ^ suc l + n / 2 ^ suc l) ≡ n / 2 ^ l = omega (arith, halves) in
          subst (λ m. Partial a m w j) e (partial-factor a (n / 2 ^ suc l + n / 2 ^ suc l) v i squared w j f)

      pub factor-outside : in_range w ≡ false → PowerCount a (pos n) (Stopped Overflow) j
      factor-outside = outside-count a n small (n / 2 ^ l) w j multiplied (div-le_self n (2 ^ l)) (omega (arith, R.few))

      pub reached-odd : in_range w ≡ true → Reached a n l w j
      reached-odd t = record { partial = multiplied; fits = range-sfits w t; few = omega (arith, R.few) }

pub reached-all : (a : ℤ) (n : ℕ) (z : ℤ) (k : ℕ) → n ≤ 64 → Reached a n 0 z k → PowerCount a (pos n) (Done (Int z)) k
reached-all a n z k small R =
    let e : n / 2 ^ 0 ≡ n = omega arith in
    whole-count a n small z k (subst (λ m. Partial a m z k) e R.partial) (omega (arith, R.few)) R.fits
