-- A fraction to the nearest whole number, ties to even, in the three ways in which the code finds it.
use Rattle.std.proofs.Common.{◌≡◌, ℕ, ◌+◌, ◌*◌, ◌/◌, ◌%◌, ◌<◌, ◌≤◌, true, false, refl, true≢false, le_of_lt, add-one, arith, eq-eqb, ne_eqb, le-leb}
use mathlib.Core.Bool.{false≢true}
use Prim.Native.Nat.{compare, Ordering}
use lib.Dec.{is_le, compare_is_eq}
use lib.Ieee.{nearest}
use lib.Ieee.Nearest.{closest}
use borrow.Author.Tests.{lt-leb}

down : (q : ℕ) (o : Ordering) → is_le o ≡ true → compare_is_eq o ≡ false → q ≡ nearest q o
down q Ordering.lt l e = refl
down q Ordering.eq l e = absurd (true≢false e)
down q Ordering.gt l e = absurd (false≢true l)

up : (q : ℕ) (o : Ordering) → is_le o ≡ false → q + 1 ≡ nearest q o
up q Ordering.lt l = absurd (true≢false l)
up q Ordering.eq l = absurd (true≢false l)
up q Ordering.gt l = add-one q

even : (q : ℕ) (o : Ordering) → compare_is_eq o ≡ true → q + q % 2 ≡ nearest q o
even q Ordering.lt e = absurd (false≢true e)
even q Ordering.eq e = refl
even q Ordering.gt e = absurd (false≢true e)

module _ (m u : ℕ) where
  pub closest-down : m % u * 2 < u → m / u ≡ closest m u
  closest-down h = down (m / u) (compare (m % u * 2) u) (le-leb (m % u * 2) u (le_of_lt h)) (ne_eqb (m % u * 2) u (λ e. omega arith))

  pub closest-up : u < m % u * 2 → m / u + 1 ≡ closest m u
  closest-up h = up (m / u) (compare (m % u * 2) u) (lt-leb (m % u * 2) u h)

  pub closest-even : u ≤ m % u * 2 → m % u * 2 ≤ u → m / u + m / u % 2 ≡ closest m u
  closest-even h k = even (m / u) (compare (m % u * 2) u) (eq-eqb (m % u * 2) u (omega arith))
