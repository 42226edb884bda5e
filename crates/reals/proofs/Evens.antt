-- `Even` is what IEEE 754 says: the last digit of the significand is 0. And that digit is the last bit of the pattern.
use mathlib.Core.Path.{◌≡◌, sym, ap, ◌∙◌, subst}
use mathlib.Core.Bool.{Bool, true, false, cond}
use Prim.Native.Nat.{ℕ, ◌+◌, ◌-◌, ◌*◌, ◌/◌, ◌%◌, ◌^◌, ◌≤◌, ◌<◌}
use native.Mathlib.Nat.{mul_assoc, mul-div_cancel, mul-mod_right}
use native.Mathlib.Omega.{arith}
use lib.Pow.{pow_pos, shl_lt}
use lib.Ieee.{Float, Format, binary32, binary64, prec, size, hid, top, to_bits}
use lib.Ieee.Digits.{size-le}
use lib.Ieee.Fits.{kept-lt}
use Rattle.reals.proofs.Near.{Held, Even, Is}
use Rattle.reals.proofs.Grid.{lower}
use Rattle.reals.proofs.Kept.{halve}
use Rattle.reals.proofs.Pattern.{pattern, pattern-of}

-- the significand of a size: its `prec` leading digits
abbrev pub significand : Format → ℕ → ℕ
significand f n = n / 2 ^ (size n - prec f)

-- n is q at the place i, so at the place that the format drops to
drops : (p n q i : ℕ) → q < 2 ^ p → n ≡ q * 2 ^ i → size n - p ≤ i
drops p n q i h e = fit (size n) p i (size-le n (p + i) (subst (λ (x : ℕ). x < 2 ^ (p + i)) (sym e) (shl_lt p i h)))
  where
    fit : (z p i : ℕ) → z ≤ p + i → z - p ≤ i
    fit z p i h = omega arith

leading : (f : Format) (n q i : ℕ) → q < 2 ^ prec f → n ≡ q * 2 ^ i → significand f n ≡ q * 2 ^ (i - (size n - prec f))
leading f n q i h e =
    let k = size n - prec f in
    ap (λ (x : ℕ). x / 2 ^ k) (e ∙ lower q k i (drops (prec f) n q i h e)) ∙ mul-div_cancel (q * 2 ^ (i - k)) (pow_pos k)

pub even→last : (f : Format) (n : ℕ) → Even f n → significand f n % 2 ≡ 0
even→last f n E =
    let i = E.place - (size n - prec f) in
    ap (λ (x : ℕ). x % 2) (leading f n (2 * E.half) E.place E.few E.is ∙ mul_assoc 2 E.half (2 ^ i)) ∙ mul-mod_right 2 (E.half * 2 ^ i)

pub last→even : (f : Format) (n : ℕ) → Held f n → significand f n % 2 ≡ 0 → Even f n
last→even f n H z = record {
  half = significand f n / 2;
  place = size n - prec f;
  few = rw (halve (significand f n) z) (kept-lt (prec f) n);
  is = whole ∙ ap (λ (x : ℕ). x * 2 ^ (size n - prec f)) (sym (halve (significand f n) z));
}
  where
    whole : n ≡ significand f n * 2 ^ (size n - prec f)
    whole = H.is ∙ lower H.digits (size n - prec f) H.place (drops (prec f) n H.digits H.place H.few H.is)
        ∙ ap (λ (x : ℕ). x * 2 ^ (size n - prec f)) (sym (leading f n H.digits H.place H.few H.is))

-- the pattern ends in the significand's last digit
pub last_bit : (f : Format) (x : Float) (s : Bool) (n : ℕ) → Is f x s n → to_bits f x % 2 ≡ significand f n % 2
unfolding pattern
last_bit f x s n h = ap (λ (z : ℕ). z % 2) (pattern-of f x s n h) ∙ ends f s (size n - prec f) (significand f n)
  where
    ends : (f : Format) (s : Bool) (k q : ℕ) → (cond s (top f) 0 + k * hid f + q) % 2 ≡ q % 2
    ends binary32 true k q = omega arith
    ends binary32 false k q = omega arith
    ends binary64 true k q = omega arith
    ends binary64 false k q = omega arith
