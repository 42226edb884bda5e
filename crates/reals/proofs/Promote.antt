-- An integer's promotion is rounded once, and exact where its size has few digits.
use mathlib.Core.Path.{◌≡◌, refl, subst}
use mathlib.Core.Bool.{false}
use Prim.Native.Nat.{ℕ, zero, suc, ◌*◌, ◌^◌, ◌≤◌, ◌<◌}
use native.Mathlib.Nat.{one-mul, zero-lt-suc}
use lib.IntN.{ℤ, pos, negsuc, nat_abs}
use lib.Ieee.{Format, prec, low, round, of_int}
use lib.Ieee.Exact.{HasValue}
use lib.Ieee.Back.{round_whole}
use Rattle.reals.specs.Operations.{sign_of}
use Rattle.reals.proofs.Near.{Is, Rounded}
use Rattle.reals.proofs.Round.{rounded}
use Rattle.reals.proofs.Values.{factor-in}

-- ---- promotion
of_int_is : (f : Format) (z : ℤ) → of_int f z ≡ round f (sign_of false z) (nat_abs z) 1
unfolding of_int
of_int_is f (pos zero) = refl
of_int_is f (pos (suc n)) = refl
of_int_is f (negsuc n) = refl

pub of_int-rounded : (f : Format) (z : ℤ) → Rounded f (sign_of false z) (nat_abs z * 2 ^ low f) 1 (of_int f z)
of_int-rounded f z = rw (of_int_is f z) (rounded f (sign_of false z) (nat_abs z) 1 (zero-lt-suc 0))

pub whole_is : (f : Format) (z : ℤ) → nat_abs z ≤ 2 ^ prec f → Is f (of_int f z) (sign_of false z) (nat_abs z * 2 ^ low f)
whole_is f z h =
    let s = sign_of false z in
    let n = nat_abs z in
    let r = round f s n 1 in
    rw (of_int_is f z) (subst (HasValue r s (n * 2 ^ low f)) (one-mul (2 ^ low f)) (factor-in (2 ^ low f) r s n 1 (round_whole f s n h)))
