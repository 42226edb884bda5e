-- How many digits a number has: one more than its tenth has, whatever the fuel, and no more than its bound has. Assumes nothing.
use mathlib.Core.Path.{◌≡◌, refl, ap, ◌∙◌}
use mathlib.Core.Logic.{◌⊎◌, inl, inr, ⊎_elim}
use mathlib.Core.Bool.{Bool, true, false, cond}
use Prim.Native.Nat.{ℕ, zero, suc, ◌+◌, ◌/◌, ◌*◌, ◌^◌, ◌≤◌, ◌<◌}
use native.Mathlib.Nat.{pow-suc}
use native.Mathlib.Omega.{arith}
use lib.Dec.{ltb}
use borrow.Author.Tests.{ltb-true, ltb-false, lt-ltb, le-ltb}
use Rattle.lines.specs.Printing.{width_from, width_of}

both_ways : (t : Bool) (a b : ℕ) → (t ≡ false → a ≡ b) → cond t 1 (suc a) ≡ cond t 1 (suc b)
both_ways true a b h = refl
both_ways false a b h = ap suc (h refl)

-- enough fuel is as good as any other
enough : (f g n : ℕ) → n ≤ f → n ≤ g → width_from f n ≡ width_from g n
enough zero zero n h k = refl
enough zero (suc g) n h k = rw (lt-ltb n 10 (omega arith))
enough (suc f) zero n h k = rw (lt-ltb n 10 (omega arith))
enough (suc f) (suc g) n h k =
    both_ways (ltb n 10) (width_from f (n / 10)) (width_from g (n / 10))
    (λ e. let ten = ltb-false n 10 e in enough f g (n / 10) (omega arith) (omega arith))

pub one : (n : ℕ) → n < 10 → width_of n ≡ 1
one zero h = refl
one (suc n) h = rw (lt-ltb (suc n) 10 h)

pub more : (n : ℕ) → 10 ≤ n → width_of n ≡ suc (width_of (n / 10))
more zero h = absurd (omega arith)
more (suc n) h = rw (le-ltb (suc n) 10 h) (ap suc (enough n (suc n / 10) (suc n / 10) (omega arith) (omega arith)))

pub few-or-many : (n : ℕ) → (n < 10) ⊎ (10 ≤ n)
few-or-many n = by (ltb n 10) refl
  where
    by : (t : Bool) → ltb n 10 ≡ t → (n < 10) ⊎ (10 ≤ n)
    by true e = inl (ltb-true n 10 e)
    by false e = inr (ltb-false n 10 e)

tenth : (k n : ℕ) → n < 10 ^ suc (suc k) → n / 10 < 10 ^ suc k
tenth k n h =
    let small : n < 10 ^ suc k * 10 = rw (pow-suc 10 (suc k)) at h in omega arith

pub at_most : (k n : ℕ) → n < 10 ^ suc k → width_of n ≤ suc k
at_most zero n h = rw (one n h) (omega arith)
at_most (suc k) n h =
    ⊎_elim (λ few. rw (one n few) (omega arith)) (λ many. rw (more n many) (omega (arith, at_most k (n / 10) (tenth k n h)))) (few-or-many n)

pub by-power : (k n : ℕ) → 10 ^ k ≤ n → n < 10 * 10 ^ k → width_of n ≡ k + 1
by-power zero n l h = one n (omega arith)
by-power (suc k) n l h =
    let low : 10 ^ k * 10 ≤ n = rw (pow-suc 10 k) at l in
    let high : n < 10 * (10 ^ k * 10) = rw (pow-suc 10 k) at h in
    more n (omega arith) ∙ ap suc (by-power k (n / 10) (omega arith) (omega arith)) ∙ omega arith
