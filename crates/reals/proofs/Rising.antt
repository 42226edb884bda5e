-- The nearest size never falls where the fraction rises; and so there is only one.
use mathlib.Core.Path.{◌≡◌, refl, sym, ap, ◌∙◌, subst}
use mathlib.Core.Logic.{◌≢◌, ◌⊎◌, inl, inr}
use Prim.Native.Nat.{ℕ, suc, ◌+◌, ◌-◌, ◌*◌, ◌^◌, ◌≤◌, ◌<◌}
use native.Mathlib.Nat.{le_of_lt, le_antisymm, lt_of_lt_of_le, lt_irrefl, mul_assoc, suc-mul, mul-le-mul_right, mul-le-mul_left, mul-lt-mul_of_pos_right}
use native.Mathlib.Omega.{arith}
use lib.Pow.{pow_pos}
use lib.Ieee.{Format, binary32, binary64, prec}
use lib.Ieee.Positive.{first_pos}
use lib.Ieee.Scale.{overflow}
use Rattle.reals.specs.Rounding.{distance}
use Rattle.reals.proofs.Near.{Held, Even, Nearest}
use Rattle.reals.proofs.Grid.{split, unless, lower}

-- ---- with x and z as near to a, what lies strictly between is nearer
inside : (x y z a : ℕ) → x < y → y < z → distance x a ≡ distance z a → distance x a ≤ distance y a → ⊥
inside x y z a h k e l = omega arith

-- two even numbers of steps of w are two steps apart
two_steps : (q r w n m : ℕ) → n ≡ 2 * q * w → m ≡ 2 * r * w → 0 < w → n < m → m ≤ n + w → ⊥
two_steps q r w n m e g W h l = go (split r q)
  where
    step : 2 * suc q * w ≡ 2 * q * w + w + w
    step = ap (λ (x : ℕ). x * w) (two q) ∙ suc-mul (suc (2 * q)) w ∙ ap (λ (x : ℕ). x + w) (suc-mul (2 * q) w)
      where
        two : (q : ℕ) → 2 * suc q ≡ suc (suc (2 * q))
        two q = omega arith

    go : (r ≤ q) ⊎ (q < r) → ⊥
    go (inl x) =
        let y : 2 * r * w ≤ 2 * q * w = mul-le-mul_right w (mul-le-mul_left 2 x) in
        omega arith
    go (inr x) =
        let y : 2 * suc q * w ≤ 2 * r * w = mul-le-mul_right w (mul-le-mul_left 2 x) in
        omega (arith, step)

coarser : (j k i m : ℕ) → k ≤ i → m ≡ 2 * j * 2 ^ i → m ≡ 2 * (j * 2 ^ (i - k)) * 2 ^ k
coarser j k i m h e = e ∙ lower (2 * j) k i h ∙ ap (λ (x : ℕ). x * 2 ^ k) (mul_assoc 2 j (2 ^ (i - k)))

odd-few : (f : Format) (h : ℕ) → 2 * h < 2 ^ prec f → suc (2 * h) < 2 ^ prec f
odd-few binary32 h l = omega arith
odd-few binary64 h l = omega arith

pred-step : (q w m : ℕ) → m ≡ q * w → 0 < m → m ≡ (q - 1) * w + w
pred-step q w m e M = e ∙ ap (λ (x : ℕ). x * w) (sym (whole q (first_pos q w (subst (λ (x : ℕ). 0 < x) e M)))) ∙ suc-mul (q - 1) w
  where
    whole : (q : ℕ) → 0 < q → suc (q - 1) ≡ q
    whole q p = omega arith

-- ---- two nearest sizes, n below m, are both even and have no size between them: so the size after n, or the one before m, is out of place
module _ (f : Format) (a b n m : ℕ) (B : 0 < b) (N : Nearest f a b n) (M : Nearest f a b m) (L : n < m) where
  same : distance (n * b) a ≡ distance (m * b) a
  same = le_antisymm (N.least m M.held) (M.least n N.held)

  distinct : n ≢ m
  distinct e = lt_irrefl n (subst (λ (x : ℕ). n < x) (sym e) L)

  empty : (o : ℕ) → Held f o → n < o → o < m → ⊥
  empty o h x y = inside (n * b) (o * b) (m * b) a (mul-lt-mul_of_pos_right x B) (mul-lt-mul_of_pos_right y B) same (N.least o h)

  below : (o : ℕ) → o < m → o < overflow f
  below o l = lt_of_lt_of_le l (le_of_lt M.held.below)

  en : Even f n
  en = N.even m M.held (λ e. distinct (sym e)) (sym same)

  em : Even f m
  em = M.even n N.held distinct same

  after : m ≤ n + 2 ^ en.place
  after = unless m (n + 2 ^ en.place) (λ h. empty (n + 2 ^ en.place) (next h) (omega (arith, pow_pos en.place)) h)
    where
      next : n + 2 ^ en.place < m → Held f (n + 2 ^ en.place)
      next h = record {
        digits = suc (2 * en.half);
        place = en.place;
        few = odd-few f en.half en.few;
        is = ap (λ (x : ℕ). x + 2 ^ en.place) en.is ∙ sym (suc-mul (2 * en.half) (2 ^ en.place));
        below = below (n + 2 ^ en.place) h;
      }

  before : m ≤ n + 2 ^ em.place
  before = unless m (n + 2 ^ em.place) (λ h.
      let o = (2 * em.half - 1) * 2 ^ em.place in
      let e : m ≡ o + 2 ^ em.place = pred-step (2 * em.half) (2 ^ em.place) m em.is (omega arith) in
      let l : o < m = omega (arith, pow_pos em.place) in
      empty o (record { digits = 2 * em.half - 1; place = em.place; few = omega (arith, em.few); is = refl; below = below o l }) (omega arith) l)

  clash : ⊥
  clash = go (split en.place em.place)
    where
      go : (en.place ≤ em.place) ⊎ (em.place < en.place) → ⊥
      go (inl h) =
          let q = em.half * 2 ^ (em.place - en.place) in
          two_steps en.half q (2 ^ en.place) n m en.is (coarser em.half en.place em.place m h em.is) (pow_pos en.place) L after
      go (inr h) =
          let q = en.half * 2 ^ (en.place - em.place) in
          two_steps q em.half (2 ^ em.place) n m (coarser en.half em.place en.place n (le_of_lt h) en.is) em.is
          (pow_pos em.place) L before

-- ---- with z below x: what x is as near to as z lies at their middle or above, and what z is as near to as x there or below
at_least : (x z a : ℕ) → z < x → distance x a ≤ distance z a → z + x ≤ 2 * a
at_least x z a l h = omega arith

at_most : (x z c : ℕ) → z < x → distance z c ≤ distance x c → 2 * c ≤ z + x
at_most x z c l h = omega arith

between : (m a c : ℕ) → a ≤ c → m ≤ 2 * a → 2 * c ≤ m → c ≡ a
between m a c h i j = omega arith

pub nearest-rising : (f : Format) (a c b n m : ℕ) → 0 < b → a ≤ c → Nearest f a b n → Nearest f c b m → n ≤ m
nearest-rising f a c b n m B h N M = unless n m (λ l.
    let k : m * b < n * b = mul-lt-mul_of_pos_right l B in
    let up : m * b + n * b ≤ 2 * a = at_least (n * b) (m * b) a k (N.least m M.held) in
    let down : 2 * c ≤ m * b + n * b = at_most (n * b) (m * b) c k (M.least n N.held) in
    let e : c ≡ a = between (m * b + n * b) a c h up down in
    clash f a b m n B (subst (λ (z : ℕ). Nearest f z b m) e M) N l)
