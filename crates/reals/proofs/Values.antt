-- The sizes of a format's finite values are exactly those that are `Held`: each value's is, and each of those is a value's.
use mathlib.Core.Path.{◌≡◌, refl, sym, ap, ◌∙◌, subst, subst₂}
use mathlib.Core.Bool.{Bool, ◌&&◌}
use Prim.Native.Nat.{ℕ, zero, suc, ◌+◌, ◌-◌, ◌*◌, ◌/◌, ◌%◌, ◌^◌, ◌≤◌, ◌<◌}
use native.Mathlib.Nat.{le_trans, le_of_eq, lt_of_not-le, not-le_of_lt, le_of_suc-le-suc, mul-one, one-mul, zero-mul, mul_comm, mul_assoc}
use native.Mathlib.Nat.{mul_right_comm, mul-pos, mul-le-mul_right, mul-div_cancel, mul-lt-mul_of_pos_right, lt_of_mul-lt-mul_right}
use native.Mathlib.Nat.{eq_of_mul-eq-mul_right, zero-lt-suc}
use lib.IntN.{ℤ, pos, negsuc}
use lib.Dec.{T, ltb, leb, eqb, ltb→lt, leb→le, eqb→eq}
use lib.Pow.{pow_pos, pow-add, pow-lt}
use lib.Ieee.{Float, nan, inf, fin, Format, prec, emax, low, up, down, round, fits}
use lib.Ieee.Digits.{back}
use lib.Ieee.Fits.{up_pos, down_pos, and_l, and_r, round-fits}
use lib.Ieee.Exact.{HasValue, round_exact}
use lib.Ieee.Scale.{finite, overflow}
use Rattle.reals.specs.Singles.{negative}
use Rattle.reals.proofs.Near.{Held, Is, Rounded, units_of}
use Rattle.reals.proofs.Same.{rounded-at}

-- ---- what `fits` says
record Parts (f : Format) (m : ℕ) (e : ℤ) : Type 0 where
  few : m < 2 ^ prec f
  fine : down e ≤ 2 ^ low f
  under : m * up e < 2 ^ suc (emax f) * down e

parts : (f : Format) (s : Bool) (m : ℕ) (e : ℤ) → T (fits f (fin s m e)) → Parts f m e
unfolding fits
parts f s zero e t = record {
  few = pow_pos (prec f);
  fine = le_trans (le_of_eq (sym (one-mul (down e)))) (le_trans (mul-le-mul_right (down e) (up_pos e))
      (le_trans (le_of_eq (eqb→eq (up e * down e) 1 t)) (pow_pos (low f))));
  under = rw (zero-mul (up e)) (mul-pos (pow_pos (suc (emax f))) (down_pos e));
}
parts f s (suc m) e t =
    let a : Bool = eqb (suc m % 2) 1 in
    let b : Bool = ltb (suc m) (2 ^ prec f) in
    let c : Bool = leb (down e) (2 ^ low f) in
    let d : Bool = ltb (suc m * up e) (2 ^ suc (emax f) * down e) in
    record {
      few = ltb→lt (suc m) (2 ^ prec f) (and_r a b (and_l (a && b) c (and_l (a && b && c) d t)));
      fine = leb→le (down e) (2 ^ low f) (and_r (a && b) c (and_l (a && b && c) d t));
      under = ltb→lt (suc m * up e) (2 ^ suc (emax f) * down e) (and_r (a && b && c) d t);
    }

-- ---- so the size is m at some place
place : (f : Format) (e : ℤ) → down e ≤ 2 ^ low f → (i : ℕ) × (up e * 2 ^ low f ≡ 2 ^ i * down e)
place f (pos k) h = (k + low f, sym (pow-add 2 k (low f)) ∙ sym (mul-one (2 ^ (k + low f))))
place f (negsuc k) h = (low f - suc k, one-mul (2 ^ low f) ∙ ap (λ (x : ℕ). 2 ^ x) (sym (back (low f) (suc k) few)) ∙ pow-add 2 (low f - suc k) (suc k))
  where
    few : suc k ≤ low f
    few = le_of_suc-le-suc (lt_of_not-le (λ (g : suc (low f) ≤ suc k). not-le_of_lt (pow-lt g) h))

module _ (f : Format) (s : Bool) (m : ℕ) (e : ℤ) (t : T (fits f (fin s m e))) where
  at : (i : ℕ) × (up e * 2 ^ low f ≡ 2 ^ i * down e)
  at = place f e (parts f s m e t).fine

  scaled : m * up e * 2 ^ low f ≡ m * 2 ^ at.0 * down e
  scaled = mul_assoc m (up e) (2 ^ low f) ∙ ap (λ (x : ℕ). m * x) at.1 ∙ sym (mul_assoc m (2 ^ at.0) (down e))

  size : units_of f (fin s m e) ≡ m * 2 ^ at.0
  size = ap (λ (x : ℕ). x / down e) scaled ∙ mul-div_cancel (m * 2 ^ at.0) (down_pos e)

  fin-is : Is f (fin s m e) s (units_of f (fin s m e))
  fin-is = (refl, scaled ∙ ap (λ (x : ℕ). x * down e) (sym size))

  fin-held : Held f (units_of f (fin s m e))
  fin-held = record {
    digits = m;
    place = at.0;
    few = (parts f s m e t).few;
    is = size;
    below = lt_of_mul-lt-mul_right (down e) (subst₂ ◌<◌ (scaled ∙ ap (λ (x : ℕ). x * down e) (sym size)) end
        (mul-lt-mul_of_pos_right (parts f s m e t).under (pow_pos (low f))));
  }
    where
      ring : (a d l : ℕ) → a * d * l ≡ l * a * d
      ring a d l = mul_right_comm a d l ∙ ap (λ (x : ℕ). x * d) (mul_comm a l)

      end : 2 ^ suc (emax f) * down e * 2 ^ low f ≡ overflow f * down e
      end = ring (2 ^ suc (emax f)) (down e) (2 ^ low f) ∙ ap (λ (x : ℕ). x * down e) (sym (pow-add 2 (low f) (suc (emax f))))

pub own : (f : Format) (x : Float) → T (fits f x) → T (finite x) → Is f x (negative x) (units_of f x) × Held f (units_of f x)
own f nan t h = absurd h
own f (inf s) t h = absurd h
own f (fin s m e) t h = (fin-is f s m e t, fin-held f s m e t)

-- the sign and the size are those that the functions of specs/ give
pub known : (f : Format) (x : Float) (s : Bool) (n : ℕ) → Is f x s n → (negative x ≡ s) × (units_of f x ≡ n)
known f nan s n h = absurd h
known f (inf t) s n h = absurd h
known f (fin t m e) s n h = (h.0, ap (λ (x : ℕ). x / down e) h.1 ∙ mul-div_cancel n (down_pos e))

-- ---- a factor k put into both parts of a fraction, and one left out
pub factor-in : (k : ℕ) (x : Float) (s : Bool) (a c : ℕ) → HasValue x s a c → HasValue x s (a * k) (c * k)
factor-in k nan s a c v = v
factor-in k (inf t) s a c v = v
factor-in k (fin t m e) s a c (sign, same) = (sign, sym (mul_assoc (m * up e) c k) ∙ ap (λ (z : ℕ). z * k) same ∙ mul_right_comm a (down e) k)

pub factor-out : (k : ℕ) → 0 < k → (x : Float) (s : Bool) (a c : ℕ) → HasValue x s (a * k) (c * k) → HasValue x s a c
factor-out k K nan s a c v = v
factor-out k K (inf t) s a c v = v
factor-out k K (fin t m e) s a c (sign, same) = (
  sign,
  eq_of_mul-eq-mul_right k K (m * up e * c) (a * down e)
      (mul_assoc (m * up e) c k ∙ same ∙ mul_right_comm a k (down e)),
)

-- ---- a fraction that is a held size rounds to it: num / den is num units over den units, so c dens over den units
pub exact-is : (f : Format) (s : Bool) (num den c : ℕ) → 0 < den → Held f c → num * 2 ^ low f ≡ c * den → Is f (round f s num den) s c
exact-is f s num den c p H h =
    let x = round f s num den in
    let l : H.digits * 2 ^ H.place < overflow f = subst (λ (z : ℕ). z < overflow f) H.is H.below in
    let v : HasValue x s num den = round_exact f s num den H.digits H.place p H.few l (h ∙ ap (λ (z : ℕ). z * den) H.is) in
    let w : HasValue x s (c * den) (den * 2 ^ low f) = subst (λ (z : ℕ). HasValue x s z (den * 2 ^ low f)) h (factor-in (2 ^ low f) x s num den v) in
    factor-out den p x s c (2 ^ low f) (subst (HasValue x s (c * den)) (mul_comm den (2 ^ low f)) w)

-- each held size is some value's, with either sign, and rounds to it
pub record Value (f : Format) (s : Bool) (n : ℕ) : Type 0 where
  pub value : Float
  pub fit : T (fits f value)
  pub has : Is f value s n
  pub rounds : Rounded f s n 1 value

pub all_held : (f : Format) (s : Bool) (n : ℕ) → Held f n → Value f s n
all_held f s n H = record {
  value = round f s n (2 ^ low f);
  fit = round-fits f s n (2 ^ low f);
  has = exact-is f s n (2 ^ low f) n (pow_pos (low f)) H refl;
  rounds = rounded-at f s n (2 ^ low f) n 1 (pow_pos (low f)) (zero-lt-suc 0) (mul-one (n * 2 ^ low f));
}
