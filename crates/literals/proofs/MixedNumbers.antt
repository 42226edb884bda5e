-- Mixed numbers over b * a: one split from n, one multiplied, and the bounds of a whole part.
use mathlib.Core.Path.{◌≡◌, refl, ap}
use Prim.Native.Nat.{ℕ, suc, ◌+◌, ◌*◌, ◌/◌, ◌%◌, ◌^◌, ◌≤◌, ◌<◌}
use native.Mathlib.Nat.{le_of_lt, le_trans, lt_of_le_of_lt, lt_of_lt_of_le, lt_of_not-le, not-le_of_lt, lt_of_mul-lt-mul_right, mod-lt, div-add-mod'}
use native.Mathlib.Nat.{div-le_of_le-mul, one-mul, mul-one, mul_assoc, mul-le-mul, mul-le-mul_right}
use native.Mathlib.Omega.{arith}
use lib.Pow.{pow-add, pow_mono}
use Rattle.literals.specs.declared.mixed.Mixed.{Mixed}
use Rattle.literals.specs.private.MixedNumbers.{numerator, Represents}

-- ---- n / (b * a): the two digits of the remainder, and the whole part
module _ (n b a : ℕ) (B : 0 < b) (A : 0 < a) where
  pub split-low : n % a < a
  split-low = mod-lt n A

  pub split-high : n / a % b < b
  split-high = mod-lt (n / a) B

  pub split-is : n ≡ (n / a / b * b + n / a % b) * a + n % a
  split-is = rw (div-add-mod' (n / a) b, div-add-mod' n a) refl

-- ---- times f
module _ (w h l b a f : ℕ) (L : l < a) (H : h < b) where
  pub low-le : l * f ≤ a * f
  low-le = mul-le-mul_right f (le_of_lt L)

  pub high_le : h * f + l * f / a ≤ b * f
  high_le = omega (arith, mul-le-mul_right f H, div-le_of_le-mul a low-le)

  pub carry-le : (h * f + l * f / a) / b ≤ f
  carry-le = div-le_of_le-mul b high_le

  pub factor-le : f ≤ b * f
  factor-le = omega (arith, mul-le-mul_right f H)

  pub times-low : l * f % a < a
  times-low = mod-lt (l * f) (omega arith)

  pub times-high : (h * f + l * f / a) % b < b
  times-high = mod-lt (h * f + l * f / a) (omega arith)

  pub times-is : ((w * b + h) * a + l) * f ≡ ((w * f + (h * f + l * f / a) / b) * b + (h * f + l * f / a) % b) * a + l * f % a
  times-is = carries (l * f / a) ((h * f + l * f / a) / b) (l * f % a) ((h * f + l * f / a) % b) (div-add-mod' (l * f) a) (div-add-mod' (h * f + l * f / a) b)
    where
      carries : (c y r z : ℕ) → c * a + r ≡ l * f → y * b + z ≡ h * f + c → ((w * b + h) * a + l) * f ≡ ((w * f + y) * b + z) * a + r
      carries c y r z e g = omega (arith, e, ap (λ (t : ℕ). t * a) g)

-- ---- the whole part and what is left
pub parts : (w h l b a : ℕ) → (w * b + h) * a + l ≡ w * (b * a) + (h * a + l)
parts w h l b a = omega arith

pub left_lt : (h l b a : ℕ) → l < a → h < b → h * a + l < b * a
left_lt h l b a L H = omega (arith, mul-le-mul_right a H)

module _ {b a n : ℕ} {x : Mixed} (r : Represents b a n x) where
  pub reaches : x.whole * (b * a) ≤ n
  reaches = omega (arith, r.is, parts x.whole x.high x.low b a)

  pub stays : n < suc x.whole * (b * a)
  stays = omega (arith, r.is, parts x.whole x.high x.low b a, left_lt x.high x.low b a r.low r.high)

  pub whole-lt : (m : ℕ) → n < m * (b * a) → x.whole < m
  whole-lt m h = lt_of_mul-lt-mul_right (b * a) (lt_of_le_of_lt reaches h)

-- a product over the denominator of its factor
pub based : (f : ℕ) {b a n : ℕ} {x y : Mixed} → Represents b a n x → Represents x.b x.a (numerator x.b x.a x * f) y → Represents b a (numerator b a x * f) y
based f r s = rw (r.b-is, r.a-is) at s

-- ---- n, doubled i times
pub record Doubled (b a n i : ℕ) (x : Mixed) : Type 0 where
  pub represents : Represents b a (n * 2 ^ i) x
  pub fits : x.whole < 2 ^ 48

pub itself : (x : Mixed) → Represents x.b x.a (numerator x.b x.a x) x
itself x = record { b-is = refl; a-is = refl; low = x.low_below; high = x.high_below; is = refl }

pub none : (x : Mixed) → x.whole < 2 ^ 48 → Doubled x.b x.a (numerator x.b x.a x) 0 x
none x W =
    let s = itself x in
    record { represents = record { b-is = refl; a-is = refl; low = s.low; high = s.high; is = mul-one (numerator x.b x.a x) }; fits = W }

module _ {b a n i : ℕ} {x : Mixed} (D : Doubled b a n i x) where
  pub few : 0 < n → a ≤ 2 ^ 47 → b ≤ 2 ^ 47 → i < 142
  few P A B = lt_of_not-le (λ (h : 142 ≤ i). not-le_of_lt most (le_trans (pow_mono h) least))
    where
      most : n * 2 ^ i < 2 ^ 48 * (2 ^ 47 * 2 ^ 47)
      most = lt_of_lt_of_le (stays D.represents) (mul-le-mul D.fits (mul-le-mul B A))

      least : 2 ^ i ≤ n * 2 ^ i
      least = rw one-mul at (mul-le-mul_right (2 ^ i) P)

  pub again : {y : Mixed} → x.whole < 2 ^ 24 → Represents b a (numerator b a x * 2 ^ 16) y → Doubled b a n (i + 16) y
  again {y} W r = record {
    represents = record { b-is = r.b-is; a-is = r.a-is; low = r.low; high = r.high; is = rw (pow-add 2 i 16, ← mul_assoc n, ← r.is, D.represents.is) };
    fits = whole-lt r (2 ^ 48) (rw (← D.represents.is) (omega (arith, stays D.represents, mul-le-mul_right (b * a) W)));
  }
