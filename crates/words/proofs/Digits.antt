-- The binary digits of any number, by recursion on the place of a digit: halves and remainders by 2. Assumes nothing.
use mathlib.Core.Path.{◌≡◌, refl, sym, ap, ap₂, ◌∙◌}
use mathlib.Core.Logic.{◌≢◌}
use Prim.Native.Nat.{ℕ, zero, suc, ◌+◌, ◌*◌, ◌/◌, ◌%◌, ◌^◌, ◌<◌}
use native.Mathlib.Nat.{pow-suc}
use native.Mathlib.Omega.{arith}
use Rattle.words.specs.Bits.{bit, with_bit}
use Rattle.words.specs.Laws.{DigitLaws}

-- ---- a number with a digit behind it
pub upper : (y d : ℕ) → d < 2 → (y * 2 + d) / 2 ≡ y
upper y d h = omega arith

pub lower : (y d : ℕ) → d < 2 → (y * 2 + d) % 2 ≡ d
lower y d h = omega arith

pub remainder-digit : (x : ℕ) → x % 2 < 2
remainder-digit x = omega arith

below : (x k : ℕ) → bit x k < 2
below x zero = remainder-digit x
below x (suc k) = below (x / 2) k

-- a digit above the lowest, of a number with a digit behind it
above : (y d k : ℕ) → d < 2 → bit (y * 2 + d) (suc k) ≡ bit y k
above y d k h = ap (λ (z : ℕ). bit z k) (upper y d h)

written : (x k d : ℕ) → d < 2 → bit (with_bit x k d) k ≡ d
written x zero d h = lower (x / 2) d h
written x (suc k) d h = above (with_bit (x / 2) k d) (x % 2) k (remainder-digit x) ∙ written (x / 2) k d h

kept : (x k j d : ℕ) → d < 2 → k ≢ j → bit (with_bit x k d) j ≡ bit x j
kept x zero zero d h n = absurd (n refl)
kept x zero (suc j) d h n = above (x / 2) d j h
kept x (suc k) zero d h n = lower (with_bit (x / 2) k d) (x % 2) (remainder-digit x)
kept x (suc k) (suc j) d h n = above (with_bit (x / 2) k d) (x % 2) j (remainder-digit x) ∙ kept (x / 2) k j d h (λ e. n (ap suc e))

-- ---- two digits that are written
-- one above the lowest, of a number with a digit behind it
write-above : (y c k d : ℕ) → c < 2 → with_bit (y * 2 + c) (suc k) d ≡ with_bit y k d * 2 + c
write-above y c k d h = ap₂ (λ (z r : ℕ). with_bit z k d * 2 + r) (upper y c h) (lower y c h)

write-lowest : (y c d : ℕ) → c < 2 → with_bit (y * 2 + c) zero d ≡ y * 2 + d
write-lowest y c d h = ap (λ (z : ℕ). z * 2 + d) (upper y c h)

commute : (x k j c d : ℕ) → c < 2 → d < 2 → k ≢ j → with_bit (with_bit x k c) j d ≡ with_bit (with_bit x j d) k c
commute x zero zero c d g h n = absurd (n refl)
commute x zero (suc j) c d g h n = write-above (x / 2) c j d g ∙ sym (write-lowest (with_bit (x / 2) j d) (x % 2) c (remainder-digit x))
commute x (suc k) zero c d g h n = write-lowest (with_bit (x / 2) k c) (x % 2) d (remainder-digit x) ∙ sym (write-above (x / 2) d k c h)
commute x (suc k) (suc j) c d g h n =
    write-above (with_bit (x / 2) k c) (x % 2) j d (remainder-digit x)
    ∙ ap (λ (z : ℕ). z * 2 + x % 2) (commute (x / 2) k j c d g h (λ e. n (ap suc e)))
    ∙ sym (write-above (with_bit (x / 2) j d) (x % 2) k c (remainder-digit x))

-- ---- a number is known by its digits
known : (k x y : ℕ) → x < 2 ^ k → y < 2 ^ k → ((j : ℕ) → j < k → bit x j ≡ bit y j) → x ≡ y
known zero x y h g d = omega arith
known (suc k) x y h g d =
    let halves : x / 2 ≡ y / 2 =
    known k (x / 2) (y / 2) (omega (arith, h, pow-suc 2 k)) (omega (arith, g, pow-suc 2 k)) (λ j l. d (suc j) (omega arith)) in
    omega (arith, d 0 (omega arith), halves)

pub digit-laws : DigitLaws
digit-laws = record { written = written; kept = kept; commute = commute; below = below; known = known }
