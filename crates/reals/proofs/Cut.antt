-- A float cut to an integer is its size cut to a whole number, with its sign: for callers that cast.
use mathlib.Core.Path.{◌≡◌, ap, ◌∙◌}
use mathlib.Core.Bool.{Bool, true, false, cond}
use Prim.Native.Nat.{ℕ, ◌-◌, ◌*◌, ◌/◌, ◌^◌, ◌<◌, min}
use native.Mathlib.Nat.{le_of_lt, min-eq_left}
use lib.IntN.{pos, neg_ℤ}
use lib.Pow.{pow_pos, le_ones}
use lib.Ieee.{Float, nan, inf, fin, binary32, low, up, down, to_signed}
use lib.Ieee.Fits.{down_pos}
use lib.Ieee.Nearest.{div_same}
use Rattle.reals.specs.Singles.{Single, negative, unit_count, signed}
use Rattle.reals.proofs.Bridge.{is}

-- in the range of h bits and a sign
pub cut : (h : ℕ) (x : Float) → Single x → unit_count x / 2 ^ 149 < 2 ^ h → to_signed h x ≡ signed (negative x) (unit_count x / 2 ^ 149)
unfolding to_signed
cut h nan S l = absurd S.real
cut h (inf s) S l = absurd S.real
cut h (fin s m e) S l = go s
  where
    whole : m * up e / down e ≡ unit_count (fin s m e) / 2 ^ 149
    whole = div_same (m * up e) (down e) (unit_count (fin s m e)) (2 ^ low binary32) (down_pos e) (pow_pos (low binary32)) (is (fin s m e) S).1

    go : (s : Bool) → cond s (neg_ℤ (pos (min (m * up e / down e) (2 ^ h)))) (pos (min (m * up e / down e) (2 ^ h - 1)))
        ≡ signed s (unit_count (fin s m e) / 2 ^ 149)
    go true = ap (λ (z : ℕ). neg_ℤ (pos (min z (2 ^ h)))) whole ∙ ap (λ (z : ℕ). neg_ℤ (pos z)) (min-eq_left (le_of_lt l))
    go false = ap (λ (z : ℕ). pos (min z (2 ^ h - 1))) whole ∙ ap pos (min-eq_left (le_ones h l))
