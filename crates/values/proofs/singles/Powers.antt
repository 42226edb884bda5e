-- Repeated products: an infinite one stays infinite and a NaN stays a NaN, so that the last settles as the first fault does.
use Rattle.std.proofs.Common.{◌≡◌, ℕ, zero, suc, ◌*◌, ◌<◌, Bool, sym, refl, ap, ◌∙◌, mul-pos, zero-mul, arith, pow_pos}
use lib.Dec.{eqb-suc-zero}
use lib.Ieee.{Float, nan, inf, fin, binary32, up, down, unlike, round, mul}
use lib.Ieee.Exact.{HasValue, round_exact}
use lib.Ieee.Fits.{down_pos}
use Rattle.values.specs.declared.Fault.TheVariants.{Overflow}
use Rattle.values.specs.declared.Outcome.TheVariants.{Stopped}
use Rattle.values.specs.Singles.{one_real, settle, times_real, real_product}

-- 1.0 multiplied n times by x, whatever comes out
abbrev pub multiplied : Float → ℕ → Float
multiplied x zero = one_real
multiplied x (suc n) = mul binary32 (multiplied x n) x

-- ---- a zero factor makes no infinity
zero-rounds : (s t : Bool) (a c : ℕ) → a ≡ 0 → 0 < c → round binary32 s a c ≡ inf t → ⊥
zero-rounds s t a c z h e =
    let v : HasValue (round binary32 s a c) s a c = round_exact binary32 s a c 0 0 h (pow_pos 24) (pow_pos 277) (simp (z, zero-mul)) in
    rw e at v

-- ---- so a factor that made an infinity is neither zero nor a NaN, and keeps every infinity infinite
keeps : (p x : Float) (s t : Bool) → mul binary32 p x ≡ inf s → settle (mul binary32 (inf t) x) ≡ Stopped Overflow
unfolding mul
keeps p (inf u) s t e = refl
keeps p (fin u (suc n) d) s t e = rw (eqb-suc-zero n)
keeps nan nan s t e = cc
keeps (inf r) nan s t e = cc
keeps (fin r m b) nan s t e = cc
keeps nan (fin u zero d) s t e = cc
keeps (inf r) (fin u zero d) s t e = cc
keeps (fin r m b) (fin u zero d) s t e =
    absurd (zero-rounds (unlike r u) s (m * up b * (0 * up d)) (down b * down d) (omega arith) (mul-pos (down_pos b) (down_pos d)) e)

-- ---- one factor more, and all of them
onward : (q x : Float) → ((s : Bool) → q ≡ inf s → settle (mul binary32 (inf s) x) ≡ Stopped Overflow) → times_real (settle q) x ≡ settle (mul binary32 q x)
unfolding mul
onward nan x h = refl
onward (inf s) x h = sym (h s refl)
onward (fin s m e) x h = refl

next : (x : Float) (n : ℕ) → times_real (settle (multiplied x n)) x ≡ settle (multiplied x (suc n))
next x zero = refl
next x (suc n) = onward (multiplied x (suc n)) x (λ s. keeps (multiplied x n) x s s)

pub settles-last : (x : Float) (n : ℕ) → settle (multiplied x n) ≡ real_product x n
settles-last x zero = refl
settles-last x (suc n) = sym (next x n) ∙ ap (λ r. times_real r x) (settles-last x n)
