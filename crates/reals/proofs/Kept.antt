-- What the library keeps of the fraction a / b of units, `grid` units, is the nearest size, and the even one of two as near.
use mathlib.Core.Path.{◌≡◌, refl, sym, ap, ◌∙◌}
use mathlib.Core.Logic.{◌≢◌, ◌⊎◌, inl, inr}
use Prim.Native.Nat.{ℕ, suc, ◌+◌, ◌-◌, ◌*◌, ◌/◌, ◌%◌, ◌^◌, ◌≤◌, ◌<◌, compare}
use native.Mathlib.Nat.{le_trans, mul_assoc, mul_comm, mul-pos, suc-mul, mul-le-mul_right, mod-lt, div-add-mod', div-div-eq-div-mul}
use native.Mathlib.Nat.{le-div_iff_mul-le, eq_of_mul-eq-mul_right, pow-succ', eq-or-lt_of_le}
use native.Mathlib.Omega.{arith}
use lib.Pow.{pow-add, pow_pos, pow-lt}
use lib.Ieee.{Format, prec, size}
use lib.Ieee.Digits.{size_reaches}
use lib.Ieee.Fits.{kept-lt, nearest-le, two, two-le_pos}
use lib.Ieee.Nearest.{closest}
use lib.Ieee.Order.{drop, kept}
use lib.Ieee.Scale.{overflow}
use Rattle.reals.specs.Rounding.{distance}
use Rattle.reals.proofs.Near.{Held, Even, Nearest}
use Rattle.reals.proofs.Grid.{gap, Outside}
use Rattle.reals.proofs.Closer.{ordered, closer, alone}

-- ---- a significand of 2 ^ p is 2 ^ (p - 1) at the next place
carry : (p k : ℕ) → 2 ≤ p → 2 ^ p * 2 ^ k ≡ 2 ^ (p - 1) * 2 ^ suc k
carry p k P = sym (pow-add 2 p k) ∙ ap (λ (x : ℕ). 2 ^ x) (shift p k P) ∙ pow-add 2 (p - 1) (suc k)
  where
    shift : (p k : ℕ) → 2 ≤ p → p + k ≡ p - 1 + suc k
    shift p k P = omega arith

twice_half : (p : ℕ) → 2 ≤ p → 2 * 2 ^ (p - 2) ≡ 2 ^ (p - 1)
twice_half p P = sym (pow-succ' 2 (p - 2)) ∙ ap (λ (x : ℕ). 2 ^ x) (one p P)
  where
    one : (p : ℕ) → 2 ≤ p → suc (p - 2) ≡ p - 1
    one p P = omega arith

under : (p : ℕ) → 2 ≤ p → 2 ^ (p - 1) < 2 ^ p
under p P = pow-lt (less p P)
  where
    less : (p : ℕ) → 2 ≤ p → p - 1 < p
    less p P = omega arith

pub halve : (q : ℕ) → q % 2 ≡ 0 → 2 * (q / 2) ≡ q
halve q z = omega arith

module _ (f : Format) (q k : ℕ) (h : q ≤ 2 ^ prec f) where
  to_held : q * 2 ^ k < overflow f → Held f (q * 2 ^ k)
  to_held l = go (eq-or-lt_of_le h)
    where
      go : (q ≡ 2 ^ prec f) ⊎ (q < 2 ^ prec f) → Held f (q * 2 ^ k)
      go (inl e) = record {
        digits = 2 ^ (prec f - 1);
        place = suc k;
        few = under (prec f) (two f);
        is = ap (λ (x : ℕ). x * 2 ^ k) e
            ∙ carry (prec f) k (two f);
        below = l;
      }
      go (inr s) = record { digits = q; place = k; few = s; is = refl; below = l }

  to-even : q % 2 ≡ 0 → Even f (q * 2 ^ k)
  to-even z = go (eq-or-lt_of_le h)
    where
      go : (q ≡ 2 ^ prec f) ⊎ (q < 2 ^ prec f) → Even f (q * 2 ^ k)
      go (inl e) = record {
        half = 2 ^ (prec f - 2);
        place = suc k;
        few = rw (twice_half (prec f) (two f)) (under (prec f) (two f));
        is = ap (λ (x : ℕ). x * 2 ^ k) e ∙ carry (prec f) k (two f) ∙ ap (λ (x : ℕ). x * 2 ^ suc k) (sym (twice_half (prec f) (two f)));
      }
      go (inr s) = record { half = q / 2; place = k; few = rw (halve q z) s; is = ap (λ (x : ℕ). x * 2 ^ k) (sym (halve q z)) }

-- ---- the result is kept * 2 ^ drop units; a step is 2 ^ drop units, times b
abbrev step : Format → ℕ → ℕ → ℕ
step f a b = b * 2 ^ drop (prec f) a b

abbrev pub grid : Format → ℕ → ℕ → ℕ
grid f a b = kept (prec f) a b * 2 ^ drop (prec f) a b

-- the places kept of w, where some are dropped: w has p digits and k more, so 2 ^ (p - 1) * 2 ^ k is no more than w
top : (p w k : ℕ) → 0 < p → 0 < k → size w - p ≡ k → 2 ^ (p - 1) ≤ w / 2 ^ k
top p w k P K e = (le-div_iff_mul-le (pow_pos k)).1 (rw (← (pow-add 2 (p - 1) k)) (size_reaches w (p - 1 + k) (omega arith)))

full : (p a b : ℕ) → 0 < p → 0 < drop p a b → 2 ^ (p - 1) ≤ a / (b * 2 ^ drop p a b)
full p a b P K = rw (← (div-div-eq-div-mul a b (2 ^ drop p a b))) (top p (a / b) (drop p a b) P K refl)

few : (p a b : ℕ) → a / (b * 2 ^ drop p a b) < 2 ^ p
few p a b = rw (← (div-div-eq-div-mul a b (2 ^ drop p a b))) (kept-lt p (a / b))

at-most-next : (a u t : ℕ) → a / u < t → closest a u ≤ t
at-most-next a u t h = le_trans (nearest-le (a / u) (compare (a % u * 2) u)) h

digits : (p a b : ℕ) → kept p a b ≤ 2 ^ p
digits p a b = at-most-next a (b * 2 ^ drop p a b) (2 ^ p) (few p a b)

swap : (q b k : ℕ) → q * 2 ^ k * b ≡ q * (b * 2 ^ k)
swap q b k = mul_assoc q (2 ^ k) b ∙ ap (λ (x : ℕ). q * x) (mul_comm (2 ^ k) b)

-- no value o, of however many units, lies between a's neighbours
around : (b q k v o : ℕ) → o ≡ v → (v ≤ q * 2 ^ k) ⊎ (suc q * 2 ^ k ≤ v) → Outside (q * (b * 2 ^ k)) (b * 2 ^ k) (o * b)
around b q k v o e (inl l) = inl (rw (e, ← (swap q b k)) (mul-le-mul_right b l))
around b q k v o e (inr l) = inr (rw (e, ← (suc-mul q (b * 2 ^ k)), ← (swap (suc q) b k)) (mul-le-mul_right b l))

beside : (f : Format) (a b o j i : ℕ) → o ≡ j * 2 ^ i → j < 2 ^ prec f → Outside (a / step f a b * step f a b) (step f a b) (o * b)
beside f a b o j i e h =
    let P : 0 < prec f = two-le_pos (prec f) (two f) in
    around b (a / step f a b) (drop (prec f) a b) (j * 2 ^ i) o e (gap (prec f) (a / step f a b) (drop (prec f) a b) j i P (full (prec f) a b P) h)

module _ (f : Format) (a b : ℕ) (B : 0 < b) where
  abbrev q : ℕ
  q = kept (prec f) a b

  abbrev k : ℕ
  k = drop (prec f) a b

  abbrev u : ℕ
  u = step f a b

  wide : 0 < u
  wide = mul-pos B (pow_pos k)

  pub least : (o j i : ℕ) → o ≡ j * 2 ^ i → j < 2 ^ prec f → distance (grid f a b * b) a ≤ distance (o * b) a
  least o j i e h =
      rw (swap q b k)
      (closer (a / u) u (a % u) a (o * b) (compare (a % u * 2) u) (ordered (a % u * 2) u) (div-add-mod' a u) (mod-lt a wide) (beside f a b o j i e h))

  even : (o j i : ℕ) → o ≡ j * 2 ^ i → j < 2 ^ prec f → o ≢ grid f a b → distance (o * b) a ≡ distance (grid f a b * b) a → Even f (grid f a b)
  even o j i e h d t =
      go
      (alone (a / u) u (a % u) a (o * b) (compare (a % u * 2) u) (ordered (a % u * 2) u) (div-add-mod' a u) (mod-lt a wide) (beside f a b o j i e h)
      (rw (swap q b k) at t))
    where
      go : (o * b ≡ q * u) ⊎ (q % 2 ≡ 0) → Even f (grid f a b)
      go (inl s) = absurd (d (eq_of_mul-eq-mul_right b B o (grid f a b) (s ∙ sym (swap q b k))))
      go (inr s) = to-even f q k (digits (prec f) a b) s

  pub is-nearest : grid f a b < overflow f → Nearest f a b (grid f a b)
  is-nearest l = record {
    held = to_held f q k (digits (prec f) a b) l;
    least = λ o h. least o h.digits h.place h.is h.few;
    even = λ o h. even o h.digits h.place h.is h.few;
  }
