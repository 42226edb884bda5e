-- The operations keep values proper: integers stay in 32 bits, and singles are finite values of the format.
use mathlib.Core.Path.{◌≡◌, sym, subst}
use mathlib.Core.Bool.{Bool, true, false}
use Prim.Native.Nat.{◌^◌}
use lib.Dec.{T}
use lib.IntN.{ℤ}
use lib.Signed.{shr_z, mag_shr, nat_abs-le}
use lib.Ieee.{Float, nan, inf, fin, neg}
use lib.Ieee.Bits.{is_true}
use mir.Syntax.{w32}
use mir.Val.{SFits}
use mir.ValLaws.{sfits_le}
use Rattle.reals.specs.Operations.{ieee}
use Rattle.reals.specs.Singles.{Single}
use Rattle.reals.proofs.Laws.{ieee-fits, real-laws}
use Rattle.values.specs.declared.Value.TheVariants.{Int, Real}
use Rattle.values.specs.Integers.{in_range}
use Rattle.values.specs.Singles.{one_real, real_abs}
use Rattle.values.specs.Convert.{promoted}
use Rattle.values.proofs.Ranges.{sfits-range, range-sfits}
use Rattle.operators.specs.Laws.{Proper, int, real}
use Rattle.operators.proofs.Gives.{Closed}

holds : (b : Bool) → b ≡ true → T b
holds b e = subst T (sym e) tt

-- ---- what a proper value is
ranged-of : (z : ℤ) → Proper (Int z) → SFits w32 z
ranged-of z (int y p) = range-sfits z (is_true (in_range z) p)

single_of : (x : Float) → Proper (Real x) → Single x
single_of x (real y S) = S

-- a single without its sign is the single or its negation
abs-single : (x : Float) → Single x → Single (real_abs x)
unfolding neg
abs-single nan S = S
abs-single (inf s) S = absurd S.real
abs-single (fin true m e) S = (real-laws.neg (fin true m e) S).single
abs-single (fin false m e) S = S

pub proper-closed : Closed Proper
proper-closed = record {
  ranged = λ z e. int z (holds (in_range z) e);
  shifted = λ z s p. int (shr_z z (2 ^ s)) (holds _ (sfits-range (shr_z z (2 ^ s)) (sfits_le (mag_shr z (2 ^ s)) (ranged-of z p))));
  raised = λ z p. real (promoted z) (real-laws.promote_single z (nat_abs-le z (ranged-of z p).sfits));
  operated = λ o x y p q e. real (ieee o x y) (record { fit = ieee-fits o x y (single_of x p).fit; real = holds _ e });
  negated = λ x p. real (neg x) (real-laws.neg x (single_of x p)).single;
  unsigned = λ x p. real (real_abs x) (abs-single x (single_of x p));
  unit = real one_real real-laws.unit.single;
}
