-- The toolchain's operations on singles obey `RealLaws`; and what its callers cite beside the record.
use mathlib.Core.Path.{◌≡◌, ap₂, ◌∙◌}
use mathlib.Core.Bool.{false, not}
use Prim.Native.Nat.{ℕ, ◌*◌, ◌%◌, ◌^◌, ◌≤◌, ◌<◌}
use native.Mathlib.Nat.{le_refl, lt_of_le_of_lt, lt_of_lt_of_le, mul-le-mul_right, mul-le-mul_left}
use lib.IntN.{ℤ, pos, nat_abs, ◌*ℤ◌}
use lib.Signed.{le_z}
use lib.Dec.{T, leb, lit≤, lit<}
use lib.Ieee as Ieee
use lib.Ieee.{Float, fin, binary32, fits}
use lib.Ieee.Fits.{round-fits, add-fits, sub-fits, mul-fits, div-fits, rem-fits, of_int-fits, neg-fits}
use lib.Ieee.Bits.{of_bits-fits, of_bits-to_bits, to_bits-lt}
use Rattle.reals.specs.declared.ArithOp.{ArithOp}
use Rattle.reals.specs.declared.ArithOp.TheVariants.{Add, Sub, Mul, Div, Rem}
use Rattle.reals.specs.Singles.{Single, negative, unit_count, signed, signed_units, Has}
use Rattle.reals.specs.Rounding.{Rounds, overflow_units}
use Rattle.reals.specs.Operations.{ieee, sign_of, exact_result, divides}
use Rattle.reals.specs.Laws.{RealLaws, pattern_units, integer_fraction}
use Rattle.reals.proofs.Round.{rounded}
use Rattle.reals.proofs.Pattern.{bits_is, encode_decode, decode_special}
use Rattle.reals.proofs.Ops.{add-rounded, sub-rounded, mul-rounded, div-rounded, neg_is}
use Rattle.reals.proofs.Rem.{rem_is}
use Rattle.reals.proofs.Promote.{of_int-rounded, whole_is}
use Rattle.reals.proofs.Signed.{signed-times, in_order}
use Rattle.reals.proofs.Order.{lt-is, le_is, eq_is}
use Rattle.reals.proofs.Halves.{halves}
use Rattle.reals.proofs.Bridge as Bridge
use Rattle.reals.proofs.Bridge.{is, held, has, of-singles, Close, within, itself}

-- ---- the five operations
pub ieee-fits : (o : ArithOp) (x y : Float) → T (fits binary32 x) → T (fits binary32 (ieee o x y))
ieee-fits Add x y t = add-fits binary32 x y
ieee-fits Sub x y t = sub-fits binary32 x y
ieee-fits Mul x y t = mul-fits binary32 x y
ieee-fits Div x y t = div-fits binary32 x y
ieee-fits Rem x y t = rem-fits binary32 x y t

remainder : (x y : Float) → Single x → Single y → 0 < unit_count y → Has (negative x) (unit_count x % unit_count y) (ieee Rem x y)
remainder x y S R p =
    has (negative x) (unit_count x % unit_count y) (ieee Rem x y) (ieee-fits Rem x y S.fit) (of-singles (rem_is binary32) x y S R (held x S) (held y R) p)

rounds : (o : ArithOp) (x y : Float) → Single x → Single y → (T (divides o) → 0 < unit_count y) → Rounds (exact_result o x y) (ieee o x y)
rounds Add x y S R p = Bridge.rounds (ieee-fits Add x y S.fit) (of-singles (add-rounded binary32) x y S R)
rounds Sub x y S R p = Bridge.rounds (ieee-fits Sub x y S.fit) (of-singles (sub-rounded binary32) x y S R)
rounds Mul x y S R p = Bridge.rounds (ieee-fits Mul x y S.fit) (of-singles (mul-rounded binary32) x y S R)
rounds Div x y S R p = Bridge.rounds (ieee-fits Div x y S.fit) (of-singles (div-rounded binary32) x y S R (p tt))
rounds Rem x y S R p = itself (remainder x y S R (p tt))

-- ---- promotion
abbrev real : ℤ → Float
real z = Ieee.of_int binary32 z

-- 2 ^ 31 is far below the end of the range
small : (n b : ℕ) → 0 < b → n ≤ 2 ^ 31 → n * 2 ^ 149 < overflow_units * b
small n b B h = lt_of_le_of_lt (mul-le-mul_right (2 ^ 149) h) (lt_of_lt_of_le (lit< {m = 2 ^ 31 * 2 ^ 149} {n = overflow_units * 1} tt)
    (mul-le-mul_left overflow_units B))

promote : (z : ℤ) → Rounds (integer_fraction z) (real z)
promote z = Bridge.rounds (of_int-fits binary32 z) (of_int-rounded binary32 z)

pub promoted : (z : ℤ) → nat_abs z ≤ 2 ^ 31 → Close (integer_fraction z) (Ieee.of_int binary32 z)
promoted z h = within (small (nat_abs z) 1 (le_refl 1) h) (promote z)

pub exactly : (z : ℤ) → nat_abs z ≤ 2 ^ 24 → Has (sign_of false z) (nat_abs z * 2 ^ 149) (Ieee.of_int binary32 z)
exactly z h = has (sign_of false z) (nat_abs z * 2 ^ 149) (real z) (of_int-fits binary32 z) (whole_is binary32 z h)

same : (z : ℤ) → nat_abs z ≤ 2 ^ 24 → signed_units (real z) ≡ z *ℤ pos (2 ^ 149)
same z h = let v = exactly z h in ap₂ signed v.sign v.size ∙ signed-times z (2 ^ 149)

climbs : (y z : ℤ) → nat_abs y ≤ 2 ^ 31 → nat_abs z ≤ 2 ^ 31 → nat_abs y ≤ nat_abs z → unit_count (real y) ≤ unit_count (real z)
climbs y z h k l =
    let v = promoted y h in
    let w = promoted z k in
    Bridge.rising (nat_abs y * 2 ^ 149) (nat_abs z * 2 ^ 149) 1 (real y) (real z) (le_refl 1) (mul-le-mul_right (2 ^ 149) l) v.single w.single
    v.closest w.closest

ordered : (y z : ℤ) → nat_abs y ≤ 2 ^ 31 → nat_abs z ≤ 2 ^ 31 → T (le_z y z) → T (le_z (signed_units (real y)) (signed_units (real z)))
ordered y z h k = rw ((promoted y h).sign, (promoted z k).sign) (in_order y z (unit_count (real y)) (unit_count (real z)) (climbs y z h k) (climbs z y k h))

unit : Has false (2 ^ 149) (fin false 1 (pos 0))
unfolding Ieee.of_int
unit = exactly (pos 1) (lit≤ tt)

pub real-laws : RealLaws
real-laws = record {
  pattern = λ b h. has (leb (2 ^ 31) b) (pattern_units b) (Ieee.of_bits binary32 b) (of_bits-fits binary32 b) (bits_is binary32 b h);
  size = Bridge.size;
  each = λ s n H. Bridge.each s n (record { digits = H.digits; place = H.place; few = H.few; is = H.is; below = H.below });
  only = Bridge.only;
  one = Bridge.one;
  rising = Bridge.rising;
  infinite = Bridge.infinite;
  rounds = rounds;
  remainder = remainder;
  neg = λ x S. has (not (negative x)) (unit_count x) (Ieee.neg x) (neg-fits binary32 x S.fit) (neg_is binary32 x (negative x) (unit_count x) (is x S));
  less = of-singles (lt-is binary32);
  less_equal = of-singles (le_is binary32);
  equal = of-singles (eq_is binary32);
  promote = promote;
  promote_single = λ z h. (promoted z h).single;
  same = same;
  ordered = ordered;
  fraction = λ s num den B. Bridge.rounds (round-fits binary32 s num den) (rounded binary32 s num den B);
  unit = unit;
  halves = halves;
  encode_below = λ x S. to_bits-lt binary32 x S.fit;
  decode_encode = λ x S. of_bits-to_bits binary32 x S.fit;
  encode_decode = encode_decode binary32;
  decode_special = decode_special binary32;
}
