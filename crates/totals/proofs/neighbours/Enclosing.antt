-- The integers next to a real. Promotion keeps the order of integers, so what is less than the real ends at one integer, and what is greater begins at one.
use mathlib.Core.Path.{◌≡◌, refl, sym, ap, ◌∙◌}
use mathlib.Core.Bool.{Bool, true, false, not, ◌&&◌, cond, false≢true}
use Prim.Native.Nat.{ℕ, zero, suc, ◌+◌, ◌-◌, ◌^◌, ◌≤◌}
use native.Mathlib.Omega.{arith}
use lib.Dec.{T, ltb, leb}
use lib.IntN.{ℤ, pos, negsuc, nat_abs, ◌+ℤ◌, ◌-ℤ◌}
use lib.Signed.{lt_z, le_z, ◌≤ℤ◌, le_z_yes, lt_z_yes, lt_z_no, <ℤ-≤ℤ_trans, clash_ℤ}
use lib.Ieee as Ieee
use lib.Ieee.{Float, lt}
use borrow.Author.Tests.{ltb-false, leb-true, leb-false, lt-ltb, le-ltb, le-leb}
use mir.Syntax.{w32}
use mir.Val.{SFits}
use Rattle.reals.specs.Singles.{Single, signed_units}
use Rattle.reals.proofs.Laws.{real-laws}
use Rattle.values.specs.declared.Value.TheVariants.{Real}
use Rattle.values.specs.declared.CompareOp.{CompareOp}
use Rattle.values.specs.declared.CompareOp.TheVariants.{Lt, Gt, Le, Ge, Eq, Ne}
use Rattle.values.specs.Convert.{promoted}
use Rattle.values.specs.Integers.{in_range}
use Rattle.values.specs.Singles.{compare_real}
use Rattle.values.proofs.Ranges.{range-sfits}
use Rattle.values.proofs.integers.Sizes.{add-size, sub-size}
use Rattle.totals.specs.private.Integers.{Enclosed}
use Rattle.totals.proofs.integers.Passing.{not-less, told, bounded}

-- ---- integers

holds : {t : Bool} → t ≡ true → T t
holds e = rw e tt

fails : {t : Bool} → t ≡ false → T (not t)
fails e = rw e tt

not-not : (t : Bool) → not (not t) ≡ t
not-not true = refl
not-not false = refl

next-below : (m n : ℕ) → ltb m (n + 1) ≡ leb m n
next-below m n = by (leb m n) refl
  where
    by : (t : Bool) → leb m n ≡ t → ltb m (n + 1) ≡ t
    by true e = lt-ltb m (n + 1) (omega (arith, leb-true m n e))
    by false e = le-ltb m (n + 1) (omega (arith, leb-false m n e))

one_below : (m n : ℕ) → ltb m n ≡ leb (suc m) n
one_below m n = by (leb (suc m) n) refl
  where
    by : (t : Bool) → leb (suc m) n ≡ t → ltb m n ≡ t
    by true e = lt-ltb m n (omega (arith, leb-true (suc m) n e))
    by false e = le-ltb m n (omega (arith, leb-false (suc m) n e))

next-negsuc : (n : ℕ) → negsuc (suc n) +ℤ pos 1 ≡ negsuc n
next-negsuc n = by (ltb 1 (suc (suc n))) (lt-ltb 1 (suc (suc n)) (omega arith))
  where
    by : (t : Bool) → t ≡ true → cond t (negsuc (suc (suc n) - suc 1)) (pos (1 - suc (suc n))) ≡ negsuc n
    by true e = let k : suc (suc n) - suc 1 ≡ n = omega arith in ap negsuc k
    by false e = absurd (false≢true e)

-- the integer after a
under_next : (a z : ℤ) → lt_z z (a +ℤ pos 1) ≡ le_z z a
under_next (pos n) (pos m) = next-below m n
under_next (pos n) (negsuc m) = refl
under_next (negsuc zero) (pos m) = le-ltb m 0 (omega arith)
under_next (negsuc zero) (negsuc m) = sym (le-leb 0 m (omega arith))
under_next (negsuc (suc n)) (pos m) = ap (lt_z (pos m)) (next-negsuc n)
under_next (negsuc (suc n)) (negsuc m) = ap (lt_z (negsuc m)) (next-negsuc n) ∙ one_below n m

from_next : (a z : ℤ) → le_z (a +ℤ pos 1) z ≡ lt_z a z
from_next a z = not-less z (a +ℤ pos 1) ∙ ap not (under_next a z ∙ not-less a z) ∙ not-not (lt_z a z)

irreflexive : (a : ℤ) → lt_z a a ≡ false
irreflexive (pos n) = le-ltb n n (omega arith)
irreflexive (negsuc n) = le-ltb n n (omega arith)

same-order : (a b : ℤ) → a ≡ b → lt_z a b ≡ false
same-order a b e = rw e (irreflexive b)

no-order : (a b : ℤ) → lt_z a b ≡ false → lt_z b a ≡ false → a ≡ b
no-order (pos m) (pos n) h k = let e : m ≡ n = omega (arith, ltb-false m n h, ltb-false n m k) in ap pos e
no-order (pos m) (negsuc n) h k = absurd (false≢true (sym k))
no-order (negsuc m) (pos n) h k = absurd (false≢true (sym h))
no-order (negsuc m) (negsuc n) h k = let e : m ≡ n = omega (arith, ltb-false n m h, ltb-false m n k) in ap negsuc e

-- ---- comparisons of singles by what is less and what is greater

module _ (p x : Float) (P : Single p) (S : Single x) where
  told-equal : (not (lt x p) && not (lt p x)) ≡ Ieee.eq p x
  told-equal = by (Ieee.eq p x) refl
    where
      less : (lt p x ≡ lt_z (signed_units p) (signed_units x)) × (lt x p ≡ lt_z (signed_units x) (signed_units p))
      less = (real-laws.less p x P S, real-laws.less x p S P)

      none : (s t : Bool) → Ieee.eq p x ≡ false → lt x p ≡ s → lt p x ≡ t → (not s && not t) ≡ false
      none true t e g h = refl
      none false true e g h = refl
      none false false e g h =
          let u = no-order (signed_units p) (signed_units x) (sym less.0 ∙ h) (sym less.1 ∙ g) in
          absurd (false≢true (sym e ∙ is_true ((real-laws.equal p x P S).1 u)))
        where
          is_true : {t : Bool} → T t → t ≡ true
          is_true {t = true} h = refl
          is_true {t = false} h = absurd h

      by : (t : Bool) → Ieee.eq p x ≡ t → (not (lt x p) && not (lt p x)) ≡ t
      by true e =
          let u = (real-laws.equal p x P S).0 (holds e) in
          rw (less.0, less.1, same-order (signed_units p) (signed_units x) u, same-order (signed_units x) (signed_units p) (sym u)) refl
      by false e = none (lt x p) (lt p x) e refl refl

  told-real : (o : CompareOp) → told o (lt p x) (lt x p) ≡ compare_real o p x
  told-real Lt = refl
  told-real Gt = refl
  told-real Le =
      ap not (real-laws.less x p S P) ∙ sym (not-less (signed_units x) (signed_units p)) ∙ sym (real-laws.less_equal p x P S)
  told-real Ge =
      ap not (real-laws.less p x P S) ∙ sym (not-less (signed_units p) (signed_units x)) ∙ sym (real-laws.less_equal x p S P)
  told-real Eq = told-equal
  told-real Ne = unfold Ieee.ne in ap not told-equal

-- ---- integers of 32 bits beside a real

small : (z : ℤ) → in_range z ≡ true → nat_abs z ≤ 2 ^ 31
small (pos n) r = omega (arith, (range-sfits (pos n) r).sfits)
small (negsuc n) r = omega (arith, (range-sfits (negsuc n) r).sfits)

abbrev units : ℤ → ℤ
units z = signed_units (promoted z)

module _ (x : Float) (S : Single x) where
  less-units : (z : ℤ) → nat_abs z ≤ 2 ^ 31 → lt (promoted z) x ≡ lt_z (units z) (signed_units x)
  less-units z h = real-laws.less (promoted z) x (real-laws.promote_single z h) S

  more-units : (z : ℤ) → nat_abs z ≤ 2 ^ 31 → lt x (promoted z) ≡ lt_z (signed_units x) (units z)
  more-units z h = real-laws.less x (promoted z) S (real-laws.promote_single z h)

  rises : (y z : ℤ) → nat_abs y ≤ 2 ^ 31 → nat_abs z ≤ 2 ^ 31 → le_z y z ≡ true → units y ≤ℤ units z
  rises y z h k e = le_z_yes (real-laws.ordered y z h k (holds e))

  -- a is the last that is less
  module _ (a : ℤ) (h : nat_abs a ≤ 2 ^ 31) (k : nat_abs (a +ℤ pos 1) ≤ 2 ^ 31) (f : lt (promoted a) x ≡ true) (g : lt (promoted (a +ℤ pos 1)) x ≡ false) where
    less-than : (z : ℤ) → nat_abs z ≤ 2 ^ 31 → lt_z z (a +ℤ pos 1) ≡ lt (promoted z) x
    less-than z l = under_next a z ∙ by (le_z z a) (lt_z (units z) (signed_units x)) refl refl ∙ sym (less-units z l)
      where
        by : (s t : Bool) → le_z z a ≡ s → lt_z (units z) (signed_units x) ≡ t → s ≡ t
        by true true d e = refl
        by true false d e =
            clash_ℤ (<ℤ-≤ℤ_trans (lt_z_yes (holds (sym (less-units a h) ∙ f))) (lt_z_no {a = units z} {b = signed_units x} (fails e))) (rises z a l h d)
        by false true d e =
            clash_ℤ (<ℤ-≤ℤ_trans (lt_z_yes (holds e)) (lt_z_no {a = units (a +ℤ pos 1)} {b = signed_units x} (fails (sym (less-units (a +ℤ pos 1) k) ∙ g))))
            (rises (a +ℤ pos 1) z k l (not-less z (a +ℤ pos 1) ∙ ap not (under_next a z ∙ d)))
        by false false d e = refl

  -- b is the last that is not greater
  module _ (b : ℤ) (h : nat_abs b ≤ 2 ^ 31) (k : nat_abs (b +ℤ pos 1) ≤ 2 ^ 31) (f : lt x (promoted b) ≡ false) (g : lt x (promoted (b +ℤ pos 1)) ≡ true) where
    greater-than : (z : ℤ) → nat_abs z ≤ 2 ^ 31 → lt_z b z ≡ lt x (promoted z)
    greater-than z l = by (lt_z b z) (lt_z (signed_units x) (units z)) refl refl ∙ sym (more-units z l)
      where
        by : (s t : Bool) → lt_z b z ≡ s → lt_z (signed_units x) (units z) ≡ t → s ≡ t
        by true true d e = refl
        by true false d e =
            clash_ℤ (<ℤ-≤ℤ_trans (lt_z_yes (holds (sym (more-units (b +ℤ pos 1) k) ∙ g))) (rises (b +ℤ pos 1) z k l (from_next b z ∙ d)))
            (lt_z_no {a = signed_units x} {b = units z} (fails e))
        by false true d e =
            clash_ℤ (<ℤ-≤ℤ_trans (lt_z_yes (holds e)) (rises z b l h (not-less b z ∙ ap not d)))
            (lt_z_no {a = signed_units x} {b = units b} (fails (sym (more-units b h) ∙ f)))
        by false false d e = refl

-- what the four tests say
pub enclosed : (x : Float) → Single x → (a b : ℤ) → nat_abs a ≤ 16777217 → nat_abs b ≤ 16777217
    → lt (promoted a) x ≡ true → lt (promoted (a +ℤ pos 1)) x ≡ false → lt x (promoted b) ≡ false → lt x (promoted (b +ℤ pos 1)) ≡ true
    → Enclosed (a +ℤ pos 1) b (Real x)
enclosed x S a b h k f g d e o z r =
    let l = small z r in
    bounded o (a +ℤ pos 1) b z r
    ∙ ap (λ (s : Bool). told o s (lt_z b z)) (less-than x S a (omega (arith, h)) (omega (arith, h, add-size a (pos 1))) f g z l)
    ∙ ap (told o (lt (promoted z) x)) (greater-than x S b (omega (arith, k)) (omega (arith, k, add-size b (pos 1))) d e z l)
    ∙ told-real (promoted z) x (real-laws.promote_single z l) S o

-- ---- one more, and one less

size_fits : (z : ℤ) → nat_abs z ≤ 16777218 → SFits w32 z
size_fits (pos n) h = record { sfits = omega (arith, h) }
size_fits (negsuc n) h = record { sfits = omega (arith, h) }

pub within-whole : (z : ℤ) → lt_z z (negsuc 16777215) ≡ false → lt_z (pos 16777216) z ≡ false → nat_abs z ≤ 16777216
within-whole (pos n) h k = omega (arith, ltb-false 16777216 n k)
within-whole (negsuc n) h k = omega (arith, ltb-false 16777215 n h)

pub next_fits : (z : ℤ) → nat_abs z ≤ 16777217 → SFits w32 (z +ℤ pos 1)
next_fits z h = size_fits (z +ℤ pos 1) (omega (arith, h, add-size z (pos 1)))

pub before-fits : (z : ℤ) → nat_abs z ≤ 16777216 → SFits w32 (z -ℤ pos 1)
before-fits z h = size_fits (z -ℤ pos 1) (omega (arith, h, sub-size z (pos 1)))
