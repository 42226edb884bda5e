-- A negative integer is promoted as its size, negated: rounding is symmetric.
use Rattle.std.proofs.Common.{◌≡◌, ℕ, zero, suc, ◌+◌, ◌*◌, ◌^◌, Bool, true, false, cond, not, ltb, ℤ, pos, negsuc, nat_abs, sym, refl, ◌∙◌}
use mathlib.Core.Bool.{false≢true}
use lib.Dec.{leb-suc-zero}
use lib.Signed.{lt_z}
use lib.Ieee.{Format, inf, binary32, low, emax, prec, odd, units, round, neg, of_int}

-- ---- rounding is symmetric
odd-neg : (d : ℕ) (s : Bool) (q k l : ℕ) → odd d (not s) q k l ≡ neg (odd d s q k l)
unfolding odd neg
odd-neg d s zero k l = refl
odd-neg d s (suc q) k l = refl

units-neg : (f : Format) (s : Bool) (q k : ℕ) → units f (not s) q k ≡ neg (units f s q k)
unfolding units
units-neg f s q k = go (ltb (q * 2 ^ k) (2 ^ (low f + suc (emax f))))
  where
    go : (b : Bool) → cond b (odd (suc (prec f)) (not s) q k (low f)) (inf (not s)) ≡ neg (cond b (odd (suc (prec f)) s q k (low f)) (inf s))
    go true = odd-neg (suc (prec f)) s q k (low f)
    go false = unfold neg in refl

round-neg : (f : Format) (s : Bool) (num den : ℕ) → round f (not s) num den ≡ neg (round f s num den)
unfolding round
round-neg f s num den = units-neg f s _ _

-- ---- a negative integer
pub of_negative : (z : ℤ) → lt_z z (pos 0) ≡ true → neg (of_int binary32 (pos (nat_abs z))) ≡ of_int binary32 z
unfolding of_int
of_negative (pos n) e = absurd (false≢true (sym (leb-suc-zero n) ∙ e))
of_negative (negsuc n) e = sym (round-neg binary32 false (suc n) 1)
