-- The size of an exact result: the absolute value of a sum, product, quotient or remainder against those of its operands.
use Rattle.std.proofs.Common.{◌≡◌, ℕ, zero, suc, ◌+◌, ◌-◌, ◌*◌, ◌/◌, ◌%◌, ◌≤◌, Bool, true, false, cond, ltb, ℤ, pos, negsuc, ◌+ℤ◌, ◌-ℤ◌, ◌*ℤ◌, neg_ℤ, nat_abs, refl, le_refl, div-le_self, arith, ltb-false, ltb-true}
use native.Mathlib.Nat.{mod-le}
use lib.IntN.{sub_ℕ}
use lib.Signed.{quot_z, rem_z}

neg-size : (z : ℤ) → nat_abs (neg_ℤ z) ≡ nat_abs z
neg-size (pos zero) = refl
neg-size (pos (suc n)) = refl
neg-size (negsuc n) = refl

-- a - b on natural numbers
diff-size : (a b : ℕ) → nat_abs (sub_ℕ a b) ≤ a + b
diff-size a b = go (ltb a b) refl
  where
    go : (t : Bool) → ltb a b ≡ t → nat_abs (cond t (negsuc (b - suc a)) (pos (a - b))) ≤ a + b
    go true e = omega (arith, ltb-true a b e)
    go false e = omega (arith, ltb-false a b e)

pub add-size : (a b : ℤ) → nat_abs (a +ℤ b) ≤ nat_abs a + nat_abs b
add-size (pos a) (pos b) = le_refl (a + b)
add-size (pos a) (negsuc b) = diff-size a (suc b)
add-size (negsuc a) (pos b) = omega (arith, diff-size b (suc a))
add-size (negsuc a) (negsuc b) = omega arith

pub sub-size : (a b : ℤ) → nat_abs (a -ℤ b) ≤ nat_abs a + nat_abs b
sub-size a b = rw (neg-size b) at (add-size a (neg_ℤ b))

pub mul-size : (a b : ℤ) → nat_abs (a *ℤ b) ≡ nat_abs a * nat_abs b
mul-size (pos a) (pos b) = refl
mul-size (pos a) (negsuc b) = neg-size (pos (a * suc b))
mul-size (negsuc a) (pos b) = neg-size (pos (suc a * b))
mul-size (negsuc a) (negsuc b) = refl

pub quot-size : (a b : ℤ) → nat_abs (quot_z a b) ≤ nat_abs a
quot-size (pos a) (pos b) = div-le_self a b
quot-size (pos a) (negsuc b) = rw (neg-size (pos (a / suc b))) (div-le_self a (suc b))
quot-size (negsuc a) (pos b) = rw (neg-size (pos (suc a / b))) (div-le_self (suc a) b)
quot-size (negsuc a) (negsuc b) = div-le_self (suc a) (suc b)

pub rem-size : (a b : ℤ) → nat_abs (rem_z a b) ≤ nat_abs a
rem-size (pos a) b = mod-le a (nat_abs b)
rem-size (negsuc a) b = rw (neg-size (pos (suc a % nat_abs b))) (mod-le (suc a) (nat_abs b))
