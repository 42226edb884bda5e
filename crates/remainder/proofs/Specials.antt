-- NaNs, infinities and zeros: how the code knows them, and the remainders that they give.
use mathlib.Core.Path.{◌≡◌, refl, sym, ap, ◌∙◌}
use mathlib.Core.Logic.{◌⊎◌, inl, inr}
use mathlib.Core.Bool.{Bool, true, false, not, false≢true}
use Prim.Native.Nat.{ℕ, ◌+◌, ◌*◌, ◌%◌, ◌^◌, ◌≤◌, ◌<◌}
use native.Mathlib.Nat.{le_of_lt, le_antisymm}
use native.Mathlib.Omega.{arith}
use lib.IntN.{pos}
use lib.Dec.{T}
use lib.Ieee.{Float, nan, inf, fin, binary32, is_nan, fits, of_bits, of_fields, odd, to_bits, nan_bits, rem}
use lib.Ieee.Bits.{is_false, of_bits-to_bits, to_bits-lt, nan_bits_is, nan_bits_above}
use lib.Ieee.Scale.{finite}
use borrow.Author.Tests.{le-ltb, ltb-false}
use Rattle.reals.proofs.Grid.{split}

-- ---- a NaN
pub same : (x : Float) → is_nan x ≡ false → T (not (is_nan x))
same x h = rw h tt

found : (x : Float) → is_nan x ≡ true → x ≡ nan
unfolding is_nan
found nan h = refl
found (inf s) h = absurd (false≢true h)
found (fin s m e) h = absurd (false≢true h)

rem-nan : (x : Float) → rem binary32 x nan ≡ nan
unfolding rem
rem-nan nan = refl
rem-nan (inf s) = refl
rem-nan (fin s m e) = refl

pub nan-dividend : (x y : Float) → is_nan x ≡ true → rem binary32 x y ≡ nan
unfolding rem
nan-dividend x y h = rw (found x h)

pub nan-divisor : (x y : Float) → is_nan y ≡ true → rem binary32 x y ≡ nan
nan-divisor x y h = rw (found y h) (rem-nan x)

-- ---- what has the pattern k below its sign
either : (x : Float) (k : ℕ) → T (fits binary32 x) → to_bits binary32 x % 2 ^ 31 ≡ k
    → (x ≡ of_bits binary32 k) ⊎ (x ≡ of_bits binary32 (2 ^ 31 + k))
either x k F h = go (signs (to_bits binary32 x) (to_bits-lt binary32 x F) h)
  where
    signs : (q : ℕ) → q < 2 ^ 32 → q % 2 ^ 31 ≡ k → (q ≡ k) ⊎ (q ≡ 2 ^ 31 + k)
    signs q l e = elim (split (2 ^ 31) q) [ inl k ↦ inr (omega arith) | inr k ↦ inl (omega arith) ]

    go : (to_bits binary32 x ≡ k) ⊎ (to_bits binary32 x ≡ 2 ^ 31 + k) → (x ≡ of_bits binary32 k) ⊎ (x ≡ of_bits binary32 (2 ^ 31 + k))
    go (inl e) = inl (sym (of_bits-to_bits binary32 x F) ∙ ap (of_bits binary32) e)
    go (inr e) = inr (sym (of_bits-to_bits binary32 x F) ∙ ap (of_bits binary32) e)

-- ---- a zero
rem-zero : (x : Float) (s : Bool) → rem binary32 x (fin s 0 (pos 0)) ≡ nan
unfolding rem
rem-zero nan s = refl
rem-zero (inf t) s = refl
rem-zero (fin t m e) s = refl

pub zero-divisor : (x y : Float) → T (fits binary32 y) → to_bits binary32 y % 2 ^ 31 ≡ 0 → rem binary32 x y ≡ nan
unfolding of_bits of_fields odd
zero-divisor x y F h = go (either y 0 F h)
  where
    go : (y ≡ fin false 0 (pos 0)) ⊎ (y ≡ fin true 0 (pos 0)) → rem binary32 x y ≡ nan
    go (inl e) = rw e (rem-zero x false)
    go (inr e) = rw e (rem-zero x true)

-- ---- an infinity; a pattern below its is no NaN's
pub below-infinity : (n : ℕ) → n % 2 ^ 31 < 255 * 2 ^ 23 → T (not (nan_bits binary32 n))
below-infinity n h = rw (nan_bits_above binary32 n, le-ltb (255 * 2 ^ 23) (n % 2 ^ 31) (le_of_lt h)) tt

not_above : (x : Float) → T (fits binary32 x) → T (not (is_nan x)) → to_bits binary32 x % 2 ^ 31 ≤ 255 * 2 ^ 23
not_above x F N =
    let q = to_bits binary32 x in
    ltb-false (255 * 2 ^ 23) (q % 2 ^ 31)
    (sym (nan_bits_above binary32 q) ∙ nan_bits_is binary32 q ∙ ap is_nan (of_bits-to_bits binary32 x F) ∙ is_false (is_nan x) N)

infinite : (x : Float) → T (fits binary32 x) → T (not (is_nan x)) → 255 * 2 ^ 23 ≤ to_bits binary32 x % 2 ^ 31 → (x ≡ inf false) ⊎ (x ≡ inf true)
unfolding of_bits of_fields
infinite x F N h = either x (255 * 2 ^ 23) F (le_antisymm (not_above x F N) h)

pub infinite-dividend : (x y : Float) → T (fits binary32 x) → T (not (is_nan x)) → 255 * 2 ^ 23 ≤ to_bits binary32 x % 2 ^ 31 → rem binary32 x y ≡ nan
unfolding rem
infinite-dividend x y F N h = elim (infinite x F N h) [ inl e ↦ rw e refl | inr e ↦ rw e refl ]

rem-infinity : (x : Float) (s : Bool) → T (finite x) → rem binary32 x (inf s) ≡ x
unfolding rem
rem-infinity nan s h = absurd h
rem-infinity (inf t) s h = absurd h
rem-infinity (fin t m e) s h = refl

pub infinite-divisor : (x y : Float) → T (finite x) → T (fits binary32 y) → T (not (is_nan y)) → 255 * 2 ^ 23 ≤ to_bits binary32 y % 2 ^ 31
    → rem binary32 x y ≡ x
infinite-divisor x y X F N h = elim (infinite y F N h) [ inl e ↦ rw e (rem-infinity x false X) | inr e ↦ rw e (rem-infinity x true X) ]
