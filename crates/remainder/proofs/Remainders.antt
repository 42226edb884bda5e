-- The remainder of two singles by their patterns, as the code works it out.
use mathlib.Core.Path.{◌≡◌, sym, ap, ap₂, ◌∙◌, subst, subst₂}
use mathlib.Core.Logic.{◌⊎◌, inl, inr}
use mathlib.Core.Bool.{Bool, not}
use Prim.Native.Nat.{ℕ, ◌+◌, ◌-◌, ◌*◌, ◌%◌, ◌^◌, ◌≤◌, ◌<◌}
use native.Mathlib.Nat.{mod-eq_of_lt}
use native.Mathlib.Omega.{arith}
use lib.Dec.{T, leb}
use lib.Pow.{pow_pos}
use lib.Ieee.{Float, binary32, is_nan, fits, of_bits, to_bits, rem}
use lib.Ieee.Bits.{of_bits-to_bits}
use borrow.Author.Tests.{le-leb, lt-leb}
use Rattle.reals.specs.Singles.{Has}
use Rattle.reals.specs.Laws.{pattern_units}
use Rattle.reals.proofs.Grid.{split, lower}
use Rattle.reals.proofs.Scaled.{mod-mul}
use Rattle.reals.proofs.Laws.{real-laws}
use Rattle.remainder.proofs.Patterns.{place, digits, in_place, units-pos, units-rise, same_units}
use Rattle.remainder.proofs.Specials.{infinite-divisor}

-- ---- of two patterns without a sign: m at the place i leaves a remainder by w at the place j, which is not above i
at_places : (m i w j : ℕ) → j ≤ i → m * 2 ^ i % (w * 2 ^ j) ≡ m * 2 ^ (i - j) % w * 2 ^ j
at_places m i w j h = ap (λ (z : ℕ). z % (w * 2 ^ j)) (lower m j i h) ∙ mod-mul (m * 2 ^ (i - j)) w (2 ^ j) (pow_pos j)

pub of-patterns : (a b : ℕ) → b ≤ a → a < 255 * 2 ^ 23
    → digits a * 2 ^ (place a - place b) % digits b * 2 ^ place b ≡ pattern_units a % pattern_units b
of-patterns a b h l =
    sym (ap₂ ◌%◌ (in_place a a (omega arith)) (in_place b b (omega arith)) ∙ at_places (digits a) (place a) (digits b) (place b) (omega arith))

-- ---- the pattern r with the sign of p
abbrev pub copysign : ℕ → ℕ → ℕ
copysign r p = p - p % 2 ^ 31 + r

same_sign : (r p : ℕ) → r < 2 ^ 31 → leb (2 ^ 31) (copysign r p) ≡ leb (2 ^ 31) p
same_sign r p h = go (split (2 ^ 31) p)
  where
    go : (2 ^ 31 ≤ p) ⊎ (p < 2 ^ 31) → leb (2 ^ 31) (copysign r p) ≡ leb (2 ^ 31) p
    go (inl l) = le-leb (2 ^ 31) (copysign r p) (omega arith) ∙ sym (le-leb (2 ^ 31) p l)
    go (inr l) = lt-leb (2 ^ 31) (copysign r p) (omega arith) ∙ sym (lt-leb (2 ^ 31) p l)

copysign-has : (r p : ℕ) → r < 255 * 2 ^ 23 → Has (leb (2 ^ 31) p) (pattern_units r) (of_bits binary32 (copysign r p))
copysign-has r p h =
    subst₂ (λ (s : Bool) (n : ℕ). Has s n (of_bits binary32 (copysign r p))) (same_sign r p (omega arith)) (same_units (copysign r p) r (omega arith))
    (real-laws.pattern (copysign r p) (omega arith))

-- ---- of two singles
by-pattern : (x : Float) → T (fits binary32 x) → to_bits binary32 x % 2 ^ 31 < 255 * 2 ^ 23
    → Has (leb (2 ^ 31) (to_bits binary32 x)) (pattern_units (to_bits binary32 x)) x
by-pattern x F h =
    let q = to_bits binary32 x in
    subst (Has (leb (2 ^ 31) q) (pattern_units q)) (of_bits-to_bits binary32 x F) (real-laws.pattern q (omega arith))

rem-has : (s t : Bool) (u v : ℕ) (x y : Float) → Has s u x → Has t v y → 0 < v → Has s (u % v) (rem binary32 x y)
rem-has s t u v x y X Y P = rw (X.sign, X.size, Y.size) at (real-laws.remainder x y X.single Y.single (rw Y.size P))

module _ (x y : Float) (F : T (fits binary32 x)) (G : T (fits binary32 y)) (X : to_bits binary32 x % 2 ^ 31 < 255 * 2 ^ 23) where
  exact : 0 < to_bits binary32 y % 2 ^ 31 → to_bits binary32 y % 2 ^ 31 < 255 * 2 ^ 23
      → Has (leb (2 ^ 31) (to_bits binary32 x)) (pattern_units (to_bits binary32 x) % pattern_units (to_bits binary32 y)) (rem binary32 x y)
  exact P Y =
      let p = to_bits binary32 x in
      let q = to_bits binary32 y in
      rem-has (leb (2 ^ 31) p) (leb (2 ^ 31) q) (pattern_units p) (pattern_units q) x y (by-pattern x F X) (by-pattern y G Y) (units-pos q P)

  -- where the divisor is the larger, x itself
  pub of-smaller : T (not (is_nan y)) → to_bits binary32 x % 2 ^ 31 < to_bits binary32 y % 2 ^ 31 → x ≡ rem binary32 x y
  of-smaller N h = go (split (255 * 2 ^ 23) (to_bits binary32 y % 2 ^ 31))
    where
      go : (255 * 2 ^ 23 ≤ to_bits binary32 y % 2 ^ 31) ⊎ (to_bits binary32 y % 2 ^ 31 < 255 * 2 ^ 23) → x ≡ rem binary32 x y
      go (inl l) = sym (infinite-divisor x y (by-pattern x F X).single.real G N l)
      go (inr l) =
          let p = to_bits binary32 x in
          real-laws.only (leb (2 ^ 31) p) (pattern_units p) x (rem binary32 x y) (by-pattern x F X)
          (rw (mod-eq_of_lt (units-rise p (to_bits binary32 y) h)) at (exact (omega arith) l))

  -- else what the patterns leave, with the sign of x
  pub of-larger : (n r : ℕ) → 0 < to_bits binary32 y % 2 ^ 31 → to_bits binary32 y % 2 ^ 31 ≤ to_bits binary32 x % 2 ^ 31 → r < 255 * 2 ^ 23
      → pattern_units r ≡ pattern_units (to_bits binary32 x % 2 ^ 31) % pattern_units (to_bits binary32 y % 2 ^ 31)
      → n ≡ copysign r (to_bits binary32 x) → of_bits binary32 n ≡ rem binary32 x y
  of-larger n r P h l e g =
      let p = to_bits binary32 x in
      let q = to_bits binary32 y in
      let size : pattern_units r ≡ pattern_units p % pattern_units q =
      e ∙ ap₂ ◌%◌ (same_units (p % 2 ^ 31) p (omega arith)) (same_units (q % 2 ^ 31) q (omega arith)) in
      real-laws.only (leb (2 ^ 31) p) (pattern_units p % pattern_units q) (of_bits binary32 n) (rem binary32 x y)
      (rw (g, ← size) (copysign-has r p l)) (exact P (omega arith))
