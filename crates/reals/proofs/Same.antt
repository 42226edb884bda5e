-- Equal fractions have the same nearest value. So an operation may state its exact result as any fraction.
use mathlib.Core.Path.{◌≡◌, sym, ap, ap₂, ◌∙◌}
use mathlib.Core.Bool.{Bool}
use Prim.Native.Nat.{ℕ, ◌+◌, ◌-◌, ◌*◌, ◌^◌, ◌≤◌, ◌<◌}
use native.Mathlib.Nat.{le_trans, le_of_eq, mul_right_comm, add-mul, mul-le-mul_right, mul-lt-mul_of_pos_right, le_of_mul-le-mul_right}
use native.Mathlib.Nat.{lt_of_mul-lt-mul_right, eq_of_mul-eq-mul_right}
use lib.Ieee.{Float, Format, low, round}
use Rattle.reals.specs.Rounding.{distance}
use Rattle.reals.proofs.Near.{Nearest, limit, Rounded, to, over}
use Rattle.reals.proofs.Round.{rounded}
use Rattle.reals.proofs.Scaled.{sub-mul}

apart-mul : (x y c : ℕ) → distance x y * c ≡ distance (x * c) (y * c)
apart-mul x y c = add-mul (x - y) (y - x) c ∙ ap₂ ◌+◌ (sub-mul x y c) (sub-mul y x c)

module _ (a b c d : ℕ) (B : 0 < b) (D : 0 < d) (e : a * d ≡ c * b) where
  -- the distance from a / b, times d, is the distance from c / d, times b
  apart-same : (n : ℕ) → distance (n * b) a * d ≡ distance (n * d) c * b
  apart-same n = apart-mul (n * b) a d ∙ ap₂ distance (mul_right_comm n b d) e ∙ sym (apart-mul (n * d) c b)

  apart-le : (n o : ℕ) → distance (n * b) a ≤ distance (o * b) a → distance (n * d) c ≤ distance (o * d) c
  apart-le n o h = le_of_mul-le-mul_right (le_trans (le_of_eq (sym (apart-same n))) (le_trans (mul-le-mul_right d h) (le_of_eq (apart-same o)))) B

  apart-eq : (n o : ℕ) → distance (o * d) c ≡ distance (n * d) c → distance (o * b) a ≡ distance (n * b) a
  apart-eq n o h = eq_of_mul-eq-mul_right d D (distance (o * b) a) (distance (n * b) a) (apart-same o ∙ ap (λ (z : ℕ). z * b) h ∙ sym (apart-same n))

  nearest-same : (f : Format) (n : ℕ) → Nearest f a b n → Nearest f c d n
  nearest-same f n N = record {
    held = N.held;
    least = λ o h. apart-le n o (N.least o h);
    even = λ o h k t. N.even o h k (apart-eq n o t);
  }

  pub rounded-same : (f : Format) (s : Bool) (x : Float) → Rounded f s a b x → Rounded f s c d x
  rounded-same f s x (to n h v N) =
      to n (lt_of_mul-lt-mul_right b (rw (← e, mul_right_comm (limit f) d b) (mul-lt-mul_of_pos_right h D))) v (nearest-same f n N)
  rounded-same f s x (over h v) = over (le_of_mul-le-mul_right (rw (← e, mul_right_comm (limit f) d b) (mul-le-mul_right d h)) B) v

-- a rounded fraction num / den, stated as a / b units
pub rounded-at : (f : Format) (s : Bool) (num den a b : ℕ) → 0 < den → 0 < b → num * 2 ^ low f * b ≡ a * den → Rounded f s a b (round f s num den)
rounded-at f s num den a b D B e = rounded-same (num * 2 ^ low f) den a b D B e f s (round f s num den) (rounded f s num den D)
