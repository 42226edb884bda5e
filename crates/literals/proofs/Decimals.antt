-- The powers of ten, and a decimal as a mixed number: over two of them, or over 2 ^ 29 twice.
use mathlib.Core.Path.{◌≡◌, sym, ap, ◌∙◌}
use mathlib.Core.Bool.{false}
use mathlib.Core.List.{List, [], ◌∷◌}
use Prim.Native.Nat.{ℕ, zero, suc, ◌+◌, ◌-◌, ◌*◌, ◌/◌, ◌^◌, ◌≤◌, ◌<◌}
use native.Mathlib.Nat.{le_trans, le_of_lt, lt_of_le_of_lt, lt_of_lt_of_le, add-zero, zero-add, add-suc, suc-add, mul-one, mul_assoc, mul_comm}
use native.Mathlib.Nat.{mul-pos, mul-le-mul, mul-le-mul_left, one-le-pow, pow-le-pow_right}
use native.Mathlib.Omega.{arith}
use lib.Dec.{lit<, lit≤}
use lib.Pow.{pow-add}
use lib.Ieee.{binary32, round}
use lib.Ieee.Scale.{round_same}
use lib.ListN.{length, get_or}
use borrow.Author.Rules.{rules}
use Rattle.literals.specs.declared.mixed.Mixed.{Mixed}
use Rattle.literals.specs.private.MixedNumbers.{numerator, Represents}
use Rattle.literals.proofs.MixedNumbers.{whole-lt, based}

-- ---- a table of the powers from 10 ^ j on: one test over the whole of it
abbrev Powers : ℕ → List ℕ → Type 0
Powers j [] = Unit
Powers j (x ∷ xs) = (x ≡ 10 ^ j) × Powers (suc j) xs

listed : (xs : List ℕ) (j k : ℕ) → Powers j xs → k < length xs → get_or xs k 0 ≡ 10 ^ (j + k)
listed [] j k t h = absurd (omega arith)
listed (x ∷ xs) j zero t h = t.0 ∙ ap (λ (i : ℕ). 10 ^ i) (sym (add-zero j))
listed (x ∷ xs) j (suc k) t h = listed xs (suc j) k t.1 (omega arith) ∙ ap (λ (i : ℕ). 10 ^ i) (suc-add j k ∙ sym (add-suc j k))

abbrev tens : List ℕ
tens =
    1 ∷ 10 ∷ 100 ∷ 1000 ∷ 10000 ∷ 100000 ∷ 1000000 ∷ 10000000 ∷ 100000000 ∷ 1000000000 ∷ 10000000000 ∷ 100000000000 ∷ 1000000000000 ∷ 10000000000000
    ∷ 100000000000000 ∷ []

pub power-of-ten : (k : ℕ) → k ≤ 14 → get_or tens k 0 ≡ 10 ^ k
power-of-ten k h = listed tens 0 k (search rules depth 20) (omega arith) ∙ ap (λ (i : ℕ). 10 ^ i) (zero-add k)

pub ten-pos : (k : ℕ) → 0 < 10 ^ k
ten-pos k = one-le-pow k 10 (lit≤ tt)

ten-le : (k j : ℕ) → k ≤ j → 10 ^ k ≤ 10 ^ j
ten-le k j h = pow-le-pow_right {n = 10} (lit≤ tt) h

-- ---- n / 10 ^ d, doubled 31 times
pub short-le : (d : ℕ) {p : ℕ} → p ≡ 10 ^ d → d < 3 → p ≤ 2 ^ 47
short-le d P D = rw P (le_trans (ten-le d 2 (omega arith)) (lit≤ tt))

pub short-fits : (d : ℕ) {p n : ℕ} {x : Mixed} → p ≡ 10 ^ d → Represents p 1 (n * 2 ^ 31) x → n < 2 ^ 17 → x.whole < 2 ^ 48
short-fits d {p} {n} P r N =
    let below : n * 2 ^ 31 < 2 ^ 48 = omega (arith, N) in
    whole-lt r (2 ^ 48) (lt_of_lt_of_le below (mul-le-mul_left {m = 1} (2 ^ 48) (rw (mul-one p, P) (ten-pos d))))

pub short-is : (d n : ℕ) → round binary32 false (n * 2 ^ 0) (10 ^ d * 1) ≡ round binary32 false n (10 ^ d)
short-is d n = rw (mul-one n, mul-one (10 ^ d))

-- the power of an exponent from those of two halves of it
halves : (e : ℕ) → 10 ^ (e / 2) * 10 ^ (e - e / 2) ≡ 10 ^ e
halves e = sym (pow-add 10 (e / 2) (e - e / 2)) ∙ ap (λ (i : ℕ). 10 ^ i) (omega arith)

-- ---- n / 10 ^ d
module _ {d a b : ℕ} (D : d ≤ 28) (A : a ≡ 10 ^ (d / 2)) (B : b ≡ 10 ^ (d - d / 2)) where
  pub low-pos : 0 < a
  low-pos = rw A (ten-pos (d / 2))

  pub high-pos : 0 < b
  high-pos = rw B (ten-pos (d - d / 2))

  pub low-le : a ≤ 2 ^ 47
  low-le = rw A (le_trans (ten-le (d / 2) 14 (omega arith)) (lit≤ tt))

  pub high_le : b ≤ 2 ^ 47
  high_le = rw B (le_trans (ten-le (d - d / 2) 14 (omega arith)) (lit≤ tt))

  pub quotient_fits : {n : ℕ} {x : Mixed} → Represents b a n x → n < 2 ^ 32 → x.whole < 2 ^ 48
  quotient_fits r N = whole-lt r (2 ^ 48) (lt_of_lt_of_le N (le_trans (lit≤ tt) (mul-le-mul_left (2 ^ 48) (mul-pos high-pos low-pos))))

  pub quotient_is : {n : ℕ} {x : Mixed} → Represents b a n x → round binary32 false (numerator b a x * 2 ^ 0) (b * a) ≡ round binary32 false n (10 ^ d)
  quotient_is {n} r = rw (← r.is, mul-one n, mul_comm b a, A, B, halves d)

-- ---- n * 10 ^ e, over 2 ^ 29 twice
abbrev Whole : ℕ → Mixed → Type 0
Whole n x = Represents (2 ^ 29) (2 ^ 29) n x

-- what a product represents, by what its factor does
pub times : (f : ℕ) {b a n : ℕ} {x y : Mixed} → Represents b a n x → Represents x.b x.a (numerator x.b x.a x * f) y → Represents b a (n * f) y
times f r s = rw (← r.is) at (based f r s)

module _ {n e f g : ℕ} (N : n < 2 ^ 32) (E : e ≤ 20) (F : f ≡ 10 ^ (e / 2)) (G : g ≡ 10 ^ (e - e / 2)) where
  pub first-le : f ≤ 10 ^ 10
  first-le = rw F (ten-le (e / 2) 10 (omega arith))

  pub second-le : g ≤ 10 ^ 10
  second-le = rw G (ten-le (e - e / 2) 10 (omega arith))

  pub first_fits : {x : Mixed} → Whole n x → x.whole * f < 2 ^ 63
  first_fits r = lt_of_le_of_lt (mul-le-mul (le_of_lt (whole-lt r (2 ^ 20) (lt_of_lt_of_le N (lit≤ tt)))) first-le) (lit< tt)

  pub second_fits : {x : Mixed} → Whole (n * f) x → x.whole * g < 2 ^ 63
  second_fits r =
      let h = whole-lt r (2 ^ 20) (lt_of_le_of_lt (mul-le-mul (le_of_lt N) first-le) (lit< tt)) in
      lt_of_le_of_lt (mul-le-mul (le_of_lt h) second-le) (lit< tt)

  pub product-fits : {x : Mixed} → Whole (n * f * g) x → x.whole < 2 ^ 48
  product-fits r = whole-lt r (2 ^ 48) (lt_of_le_of_lt (mul-le-mul (mul-le-mul (le_of_lt N) first-le) second-le) (lit< tt))

  both : n * f * g ≡ n * 10 ^ e
  both = mul_assoc n f g ∙ ap (λ (z : ℕ). n * z) (rw (F, G) (halves e))

  pub product-pos : {x : Mixed} → 0 < n → Whole (n * f * g) x → 0 < numerator (2 ^ 29) (2 ^ 29) x
  product-pos P r = rw (← r.is, both) (mul-pos P (ten-pos e))

  pub product_is : {x : Mixed} → Whole (n * f * g) x
      → round binary32 false (numerator (2 ^ 29) (2 ^ 29) x * 2 ^ 58) (2 ^ 29 * 2 ^ 29) ≡ round binary32 false (n * 10 ^ e) 1
  product_is r =
      let m = n * 10 ^ e in
      rw (← r.is, both) (round_same binary32 false (m * 2 ^ 58) (2 ^ 58) m 1 (lit< tt) (lit< tt) (mul-one (m * 2 ^ 58)))
