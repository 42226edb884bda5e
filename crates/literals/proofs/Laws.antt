-- Literals obey `LiteralLaws`.
use mathlib.Core.Path.{◌≡◌, refl}
use mathlib.Core.Bool.{true, false}
use Prim.Native.Nat.{ℕ, suc, ◌*◌, ◌^◌, ◌≤◌, ◌<◌, zero-le}
use native.Mathlib.Nat.{le_refl, le_of_lt, lt_of_le_of_lt, lt_of_lt_of_le, mul-one, mul-le-mul, mul-le-mul_left, mul-le-mul_right, pow-le-pow_right}
use lib.Dec.{lit<, lit≤}
use lib.IntN.{ℤ, pos, negsuc}
use lib.Ieee as Ieee
use lib.Ieee.{binary32}
use borrow.Author.Tests.{leb-true}
use Rattle.reals.specs.Singles.{Single, Has}
use Rattle.reals.specs.Rounding.{Rounds, overflow_units}
use Rattle.reals.proofs.Bridge.{within}
use Rattle.reals.proofs.Laws.{real-laws}
use Rattle.literals.specs.Literals.{scaled_decimal, nearest_decimal, is_scale}
use Rattle.literals.specs.Laws.{LiteralLaws}
use Rattle.literals.proofs.Decimals.{ten-pos}
use Rattle.literals.proofs.Scales.{zero-real}

rounds : (n : ℕ) (z : ℤ) → Rounds (scaled_decimal n z) (nearest_decimal n z)
rounds n (pos e) = real-laws.fraction false (n * 10 ^ e) 1 (le_refl 1)
rounds n (negsuc k) = real-laws.fraction false n (10 ^ suc k) (ten-pos (suc k))

-- ---- the decimal lies below the end of the range
below : (n e : ℕ) → n < 2 ^ 32 → e ≤ 20 → n * 10 ^ e * 2 ^ 149 < overflow_units * 1
below n e N E =
    lt_of_le_of_lt (mul-le-mul_right (2 ^ 149) (mul-le-mul (le_of_lt N) (pow-le-pow_right {n = 10} (lit≤ tt) E)))
    (lit< {m = 2 ^ 32 * 10 ^ 20 * 2 ^ 149} {n = overflow_units * 1} tt)

single : (n : ℕ) (z : ℤ) → n < 2 ^ 32 → is_scale z ≡ true → Single (nearest_decimal n z)
single n (pos e) N t = (within (below n e N (leb-true e 20 t)) (rounds n (pos e))).single
single n (negsuc k) N t =
    let small : n * 2 ^ 149 < overflow_units * 1 = rw (mul-one n) at (below n 0 N zero-le) in
    (within (lt_of_lt_of_le small (mul-le-mul_left overflow_units (ten-pos (suc k)))) (rounds n (negsuc k))).single

zero : Has false 0 (Ieee.round binary32 false 0 1)
unfolding Ieee.round Ieee.fits
zero = record { single = record { fit = tt; real = tt }; sign = refl; size = refl }

pub literal-laws : LiteralLaws
literal-laws = record {
  rounds = rounds;
  single = single;
  decode = λ n z N t. rw t (real-laws.decode_encode (nearest_decimal n z) (single n z N t));
  zero = λ z. rw (zero-real z) zero;
}
