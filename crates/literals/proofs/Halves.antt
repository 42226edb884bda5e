-- w + rest / d over 2 * half to the nearest whole number: where w itself falls decides, and at the half whether anything is left.
use mathlib.Core.Path.{◌≡◌, refl, sym, ap, ◌∙◌}
use mathlib.Core.Bool.{cond}
use Prim.Native.Nat.{ℕ, suc, ◌+◌, ◌*◌, ◌/◌, ◌%◌, ◌<◌, compare, Ordering}
use native.Mathlib.Nat.{le_of_lt, mul-le-mul_right, mod-lt, div-add-mod', div-eq_of_lt-le, mul-add-mod_self_right, mod-eq_of_lt}
use native.Mathlib.Numerals.{add-one}
use native.Mathlib.Omega.{arith}
use lib.Dec.{is_le, compare_is_eq}
use lib.Ieee as Ieee
use lib.Ieee.Nearest.{closest}
use borrow.Author.Tests.{le-leb, lt-leb, eq-eqb, ne_eqb}

by_order : (q : ℕ) (o : Ordering) → Ieee.nearest q o ≡ cond (compare_is_eq o) (q + q % 2) (cond (is_le o) q (suc q))
by_order q Ordering.lt = refl
by_order q Ordering.eq = refl
by_order q Ordering.gt = refl

-- ---- twice the remainder, x, against the divisor, y
module _ (q x y : ℕ) where
  down : x < y → Ieee.nearest q (compare x y) ≡ q
  down h = by_order q (compare x y) ∙ rw (ne_eqb x y (λ e. omega arith), le-leb x y (le_of_lt h))

  up : y < x → Ieee.nearest q (compare x y) ≡ q + 1
  up h = by_order q (compare x y) ∙ rw (ne_eqb x y (λ e. omega arith), lt-leb x y h) (sym (add-one q))

  even : x ≡ y → Ieee.nearest q (compare x y) ≡ q + q % 2
  even e = by_order q (compare x y) ∙ rw (eq-eqb x y e)

module _ (w half d rest : ℕ) (P : 0 < half) (R : rest < d) where
  abbrev q : ℕ
  q = w / (2 * half)

  abbrev last : ℕ
  last = w % (2 * half)

  whole : w * d + rest ≡ q * (d * (2 * half)) + (last * d + rest)
  whole = omega (arith, ap (λ (z : ℕ). z * d) (div-add-mod' w (2 * half)))

  under : last * d + rest < d * (2 * half)
  under = omega (arith, mul-le-mul_right d (mod-lt w {m = 2 * half} (omega arith)))

  pub kept : (w * d + rest) / (d * (2 * half)) ≡ q
  kept = div-eq_of_lt-le (d * (2 * half)) (omega (arith, whole)) (omega (arith, whole, under))

  remainder : (w * d + rest) % (d * (2 * half)) ≡ last * d + rest
  remainder = rw whole (mul-add-mod_self_right q (d * (2 * half)) (last * d + rest) ∙ mod-eq_of_lt under)

  abbrev twice : ℕ
  twice = (last * d + rest) * 2

  closest-is : closest (w * d + rest) (d * (2 * half)) ≡ Ieee.nearest q (compare twice (d * (2 * half)))
  closest-is = rw (kept, remainder)

  pub below : last < half → q ≡ closest (w * d + rest) (d * (2 * half))
  below h = sym (closest-is ∙ down q twice (d * (2 * half)) (omega (arith, mul-le-mul_right d h)))

  pub above : half < last → q + 1 ≡ closest (w * d + rest) (d * (2 * half))
  above h = sym (closest-is ∙ up q twice (d * (2 * half)) (omega (arith, mul-le-mul_right d h)))

  pub just-above : last ≡ half → (rest ≡ 0 → ⊥) → q + 1 ≡ closest (w * d + rest) (d * (2 * half))
  just-above e h = sym (closest-is ∙ up q twice (d * (2 * half)) (omega (arith, ap (λ (z : ℕ). z * d) e)))

  pub tied : last ≡ half → rest ≡ 0 → q + q % 2 ≡ closest (w * d + rest) (d * (2 * half))
  tied e h = sym (closest-is ∙ even q twice (d * (2 * half)) (omega (arith, ap (λ (z : ℕ). z * d) e)))
