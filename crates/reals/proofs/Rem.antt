-- C's fmod: the remainder of two sizes is a size, so it is exact.
use mathlib.Core.Path.{ap₂, ◌∙◌, subst}
use mathlib.Core.Logic.{◌⊎◌, inl, inr}
use Prim.Native.Nat.{ℕ, ◌-◌, ◌*◌, ◌%◌, ◌^◌, ◌≤◌, ◌<◌}
use native.Mathlib.Nat.{le_trans, le_of_lt, lt_of_le_of_lt, mod-lt, mod-le}
use lib.Pow.{pow_pos}
use lib.Ieee.{nan, Format, low, up, down, round, rem}
use lib.Ieee.Positive.{first_pos}
use Rattle.reals.proofs.Near.{Held, Is}
use Rattle.reals.proofs.Grid.{split, lower}
use Rattle.reals.proofs.Scaled.{mod-mul, remainder-same}
use Rattle.reals.proofs.Values.{exact-is}
use Rattle.reals.proofs.Ops.{Law, common, denominator, some, nonzero}

-- ---- with both at the lower one of their places, it is a remainder of significands
held-mod : (f : Format) (m n : ℕ) → 0 < n → Held f m → Held f n → Held f (m % n)
held-mod f m n p M N = go (split N.place M.place)
  where
    go : (N.place ≤ M.place) ⊎ (M.place < N.place) → Held f (m % n)
    go (inl h) =
        let j = M.digits * 2 ^ (M.place - N.place) in
        record {
          digits = j % N.digits;
          place = N.place;
          few = le_trans (mod-lt j (first_pos N.digits (2 ^ N.place) (subst (λ (x : ℕ). 0 < x) N.is p))) (le_of_lt N.few);
          is = ap₂ ◌%◌ (M.is ∙ lower M.digits N.place M.place h) N.is ∙ mod-mul j N.digits (2 ^ N.place) (pow_pos N.place);
          below = lt_of_le_of_lt (mod-le m n) M.below;
        }
    go (inr h) =
        let j = N.digits * 2 ^ (N.place - M.place) in
        record {
          digits = M.digits % j;
          place = M.place;
          few = lt_of_le_of_lt (mod-le M.digits j) M.few;
          is = ap₂ ◌%◌ M.is (N.is ∙ lower N.digits M.place N.place (le_of_lt h)) ∙ mod-mul M.digits j (2 ^ M.place) (pow_pos M.place);
          below = lt_of_le_of_lt (mod-le m n) M.below;
        }

pub rem_is : (f : Format) → Law f (λ s m t n x y. Held f m → Held f n → 0 < n → Is f (rem f x y) s (m % n))
unfolding rem
rem_is f = common f _
    (λ s M e m t N d n h k H K p.
    let A = M * up e * down d in
    let B = N * up d * down e in
    let C = down e * down d in
    let q : 0 < B = some B (2 ^ low f) n C p (denominator e d) k in
    rw (nonzero N nan (round f s (A % B) C) (first_pos N (up d) (first_pos (N * up d) (down e) q)))
    (exact-is f s (A % B) C (m % n) (denominator e d) (held-mod f m n p H K) (remainder-same (2 ^ low f) C A B m n h k (pow_pos (low f)) (denominator e d))))
