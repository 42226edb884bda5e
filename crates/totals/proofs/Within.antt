-- The test that a range lies within a bank.
use mathlib.Core.Path.{◌≡◌, refl}
use mathlib.Core.Bool.{Bool, true, false, ◌&&◌}
use Prim.Native.Nat.{ℕ, ◌+◌, ◌-◌, ◌≤◌, ◌<◌}
use native.Mathlib.Omega.{arith}
use lib.Dec.{T, leb, leb→le}
use borrow.Author.Tests.{le-leb, lt-leb, leb-true, leb-false}
use Rattle.totals.specs.Totals.{range_within}

module _ (m i n : ℕ) where
  pub none : n < 1 → false ≡ range_within m i n
  none h = rw (lt-leb 1 n h)

  pub past : 1 ≤ n → m < i → false ≡ range_within m i n
  past h l = let q : m < i + n = omega arith in rw (le-leb 1 n h, lt-leb (i + n) m q)

  same : i ≤ m → leb n (m - i) ≡ leb (i + n) m
  same l = by (leb n (m - i)) refl
    where
      by : (t : Bool) → leb n (m - i) ≡ t → t ≡ leb (i + n) m
      by true e = let p = leb-true n (m - i) e in let q : i + n ≤ m = omega arith in rw (le-leb (i + n) m q)
      by false e = let p = leb-false n (m - i) e in let q : m < i + n = omega arith in rw (lt-leb (i + n) m q)

  pub within : 1 ≤ n → i ≤ m → leb n (m - i) ≡ range_within m i n
  within h l = rw (le-leb 1 n h) (same l)

both : (a b : Bool) → T (a && b) → T a × T b
both true b t = (tt, t)
both false b t = absurd t

pub range-in : (m i n : ℕ) → T (range_within m i n) → (1 ≤ n) × (i + n ≤ m)
range-in m i n t = let p = both (leb 1 n) (leb (i + n) m) t in (leb→le 1 n p.0, leb→le (i + n) m p.1)
