-- Powers of an integer: one that leaves 32 bits does not come back.
use Rattle.std.proofs.Common.{◌≡◌, ℕ, zero, suc, ◌*◌, ◌^◌, ◌<◌, ◌≤◌, false, leb, ℤ, pos, negsuc, nat_abs, sym, refl, ap, ◌∙◌, subst, ⊎_elim, zero-le, mul-le-mul, eq-or-lt_of_le, pow-suc, arith, leb-false}
use mathlib.Core.Bool.{and-true}
use native.Mathlib.Nat.{pow-zero, pow-le-pow_left, pow-le-pow_right}
use borrow.Author.Tests.{lt-leb}
use Rattle.values.specs.Integers.{in_range, pow_z}
use Rattle.values.proofs.integers.Sizes.{mul-size}

-- ---- the size of a power
pow-size : (a : ℤ) (n : ℕ) → nat_abs (pow_z a n) ≡ nat_abs a ^ n
pow-size a zero = sym (pow-zero (nat_abs a))
pow-size a (suc n) = mul-size (pow_z a n) a ∙ ap (λ (x : ℕ). x * nat_abs a) (pow-size a n) ∙ sym (pow-suc (nat_abs a) n)

one-pow : (n : ℕ) → 1 ^ n ≡ 1
one-pow zero = refl
one-pow (suc n) = rw (pow-suc 1 n, one-pow n)

-- 0 and 1 have no large power
base : (m j : ℕ) → 2 ^ 31 ≤ m ^ j → 2 ≤ m
base zero j h = omega (arith, pow-le-pow_left {n = 0} {m = 1} zero-le j, one-pow j)
base (suc zero) j h = omega (arith, one-pow j)
base (suc (suc m)) j h = omega arith

-- so a large power grows
grows : (m j n : ℕ) → j < n → 2 ^ 31 ≤ m ^ j → 2 ^ 31 < m ^ n
grows m j n l h =
    let b = base m j h in
    let p : 0 < m = omega arith in
    omega (arith, pow-suc m j, mul-le-mul h b, pow-le-pow_right p l)

-- ---- the range: of the two integers of size 2 ^ 31 it holds the negative one
outside-size : (z : ℤ) → in_range z ≡ false → 2 ^ 31 ≤ nat_abs z
outside-size (pos n) e = omega (arith, leb-false n 2147483647 e)
outside-size (negsuc n) e = omega (arith, leb-false n 2147483647 (sym (and-true (leb n 2147483647)) ∙ e))

size-outside : (z : ℤ) → 2 ^ 31 < nat_abs z → in_range z ≡ false
size-outside (pos n) h = lt-leb n 2147483647 (omega arith)
size-outside (negsuc n) h = and-true (leb n 2147483647) ∙ lt-leb n 2147483647 (omega arith)

pub stays-outside : (a : ℤ) (j n : ℕ) → j ≤ n → in_range (pow_z a j) ≡ false → in_range (pow_z a n) ≡ false
stays-outside a j n l e =
    ⊎_elim
    (λ q. subst (λ (m : ℕ). in_range (pow_z a m) ≡ false) q e)
    (λ k. size-outside (pow_z a n) (rw (pow-size a n) (grows (nat_abs a) j n k (rw (pow-size a j) at (outside-size (pow_z a j) e)))))
    (eq-or-lt_of_le l)
