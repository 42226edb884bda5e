-- The range of 32 bits, as the rules test it (`in_range`), as the machine's types bound it (`SFits`), and as two comparisons find it.
use Rattle.std.proofs.Common.{◌≡◌, true, false, leb, ℤ, pos, negsuc, sym, refl, ◌∙◌, arith, w32, w64, SFits, to_z, of_z, ltb-false, ltb-true, le-leb, leb-true}
use mathlib.Core.Bool.{false≢true, and-true}
use lib.Signed.{lt_z, le_z}
use borrow.Author.Tests.{lt-leb}
use mir.ValLaws.{to_z-of_z}
use Rattle.values.specs.Integers.{in_range}

-- ---- the test and the bound
pub sfits-range : (z : ℤ) → SFits w32 z → in_range z ≡ true
sfits-range (pos n) F = le-leb n 2147483647 (omega (arith, F.sfits))
sfits-range (negsuc n) F = and-true (leb n 2147483647) ∙ le-leb n 2147483647 (omega (arith, F.sfits))

pub range-sfits : (z : ℤ) → in_range z ≡ true → SFits w32 z
range-sfits (pos n) e = record { sfits = omega (arith, leb-true n 2147483647 e) }
range-sfits (negsuc n) e = record { sfits = omega (arith, leb-true n 2147483647 (sym (and-true (leb n 2147483647)) ∙ e)) }

-- ---- two comparisons
pub below-range : (z : ℤ) → lt_z z (negsuc 2147483647) ≡ true → in_range z ≡ false
below-range (pos n) e = absurd (false≢true e)
below-range (negsuc n) e = and-true (leb n 2147483647) ∙ lt-leb n 2147483647 (ltb-true 2147483647 n e)

pub above-range : (z : ℤ) → lt_z (pos 2147483647) z ≡ true → in_range z ≡ false
above-range (pos n) e = lt-leb n 2147483647 (ltb-true 2147483647 n e)
above-range (negsuc n) e = absurd (false≢true e)

-- past the first comparison the second decides
pub upper-range : (z : ℤ) → lt_z z (negsuc 2147483647) ≡ false → le_z z (pos 2147483647) ≡ in_range z
upper-range (pos n) e = refl
upper-range (negsuc n) e = sym (and-true (leb n 2147483647) ∙ le-leb n 2147483647 (ltb-false 2147483647 n e))

-- ---- an integer of 32 bits at 64
pub widen : (z : ℤ) → SFits w32 z → SFits w64 z
widen z F = record { sfits = omega (arith, F.sfits) }

-- cast from i32 to i64, and read there
pub read_wide : (z : ℤ) → SFits w32 z → to_z w64 (of_z w64 (to_z w32 (of_z w32 z))) ≡ z
read_wide z F = rw (to_z-of_z w32 z F) (to_z-of_z w64 z (widen z F))

-- cast from i64 to i32, and read there
abbrev pub narrow : ℤ → ℤ
narrow z = to_z w32 (of_z w32 (to_z w64 (of_z w64 z)))

pub read-narrow : (z : ℤ) → SFits w32 z → narrow z ≡ z
read-narrow z F = rw (to_z-of_z w64 z (widen z F)) (to_z-of_z w32 z F)
