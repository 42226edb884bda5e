-- A comparison by its bounds: with any value by what is less than it and what is greater, and with an integer.
use mathlib.Core.Path.{◌≡◌, refl, sym, ap, ◌∙◌}
use mathlib.Core.Bool.{Bool, true, false, not, ◌&&◌, cond, false≢true}
use Prim.Native.Nat.{ℕ}
use native.Mathlib.Omega.{arith}
use lib.Dec.{ltb, leb}
use lib.IntN.{ℤ, pos, negsuc}
use lib.Signed.{lt_z, le_z}
use borrow.Author.Tests.{ltb-true, ltb-false, le-leb, lt-leb, le-ltb}
use Rattle.values.specs.declared.CompareOp.{CompareOp}
use Rattle.values.specs.declared.CompareOp.TheVariants.{Lt, Gt, Le, Ge, Eq, Ne}
use Rattle.values.specs.declared.Value.TheVariants.{Int}
use Rattle.values.specs.Integers.{in_range, compare_int}
use Rattle.values.proofs.Ranges.{range-sfits}
use Rattle.totals.specs.private.Integers.{bounds_of, passes_in, Enclosed}

not-below : (a b : ℕ) → leb b a ≡ not (ltb a b)
not-below a b = by (ltb a b) refl
  where
    by : (t : Bool) → ltb a b ≡ t → leb b a ≡ not t
    by true e = lt-leb b a (ltb-true a b e)
    by false e = le-leb b a (ltb-false a b e)

pub not-less : (a b : ℤ) → le_z b a ≡ not (lt_z a b)
not-less (pos a) (pos b) = not-below a b
not-less (pos a) (negsuc b) = refl
not-less (negsuc a) (pos b) = refl
not-less (negsuc a) (negsuc b) = not-below b a

none_above : (z : ℤ) → in_range z ≡ true → lt_z (pos 2147483647) z ≡ false
none_above (pos n) e = le-ltb 2147483647 n (omega (arith, (range-sfits (pos n) e).sfits))
none_above (negsuc n) e = refl

none-under : (z : ℤ) → in_range z ≡ true → lt_z z (negsuc 2147483647) ≡ false
none-under (pos n) e = refl
none-under (negsuc n) e = le-ltb 2147483647 n (omega (arith, (range-sfits (negsuc n) e).sfits))

-- s: under the least; t: over the greatest
over_none : (s t o : Bool) → t ≡ false → cond s o (cond t o (not o)) ≡ cond s o (not o)
over_none true t o e = refl
over_none false true o e = absurd (false≢true (sym e))
over_none false false o e = refl

under_none : (s t o : Bool) → s ≡ false → cond s o (cond t o (not o)) ≡ cond t o (not o)
under_none true t o e = absurd (false≢true (sym e))
under_none false t o e = refl

outside-is : (t : Bool) → cond t true false ≡ t
outside-is true = refl
outside-is false = refl

inside_is : (t : Bool) → cond t false true ≡ not t
inside_is true = refl
inside_is false = refl

both_is : (s t : Bool) → cond s false (cond t false true) ≡ (not t && not s)
both_is true true = refl
both_is true false = refl
both_is false true = refl
both_is false false = refl

either_is : (s t : Bool) → cond s true (cond t true false) ≡ not (not t && not s)
either_is true true = refl
either_is true false = refl
either_is false true = refl
either_is false false = refl

-- neither is less
equal_is : (z w : ℤ) → (not (lt_z w z) && not (lt_z z w)) ≡ (le_z z w && le_z w z)
equal_is z w = ap (λ (t : Bool). t && not (lt_z z w)) (sym (not-less w z)) ∙ ap (λ (t : Bool). le_z z w && t) (sym (not-less z w))

-- what a comparison says of one that is less (s), or greater (t)
abbrev pub told : CompareOp → Bool → Bool → Bool
told Lt s t = s
told Gt s t = t
told Le s t = not t
told Ge s t = not s
told Eq s t = not t && not s
told Ne s t = not (not t && not s)

pub bounded : (o : CompareOp) (low high z : ℤ) → in_range z ≡ true
    → passes_in (bounds_of o low high).least (bounds_of o low high).greatest (bounds_of o low high).outside z ≡ told o (lt_z z low) (lt_z high z)
bounded Lt low high z r = over_none (lt_z z low) (lt_z (pos 2147483647) z) true (none_above z r) ∙ outside-is (lt_z z low)
bounded Gt low high z r = under_none (lt_z z (negsuc 2147483647)) (lt_z high z) true (none-under z r) ∙ outside-is (lt_z high z)
bounded Le low high z r = under_none (lt_z z (negsuc 2147483647)) (lt_z high z) false (none-under z r) ∙ inside_is (lt_z high z)
bounded Ge low high z r = over_none (lt_z z low) (lt_z (pos 2147483647) z) false (none_above z r) ∙ inside_is (lt_z z low)
bounded Eq low high z r = both_is (lt_z z low) (lt_z high z)
bounded Ne low high z r = either_is (lt_z z low) (lt_z high z)

told-whole : (o : CompareOp) (z w : ℤ) → told o (lt_z z w) (lt_z w z) ≡ compare_int o z w
told-whole Lt z w = refl
told-whole Gt z w = refl
told-whole Le z w = sym (not-less w z)
told-whole Ge z w = sym (not-less z w)
told-whole Eq z w = equal_is z w
told-whole Ne z w = ap not (equal_is z w)

-- an integer is next to itself
pub enclosed-whole : (w : ℤ) → Enclosed w w (Int w)
enclosed-whole w o z r = bounded o w w z r ∙ told-whole o z w
