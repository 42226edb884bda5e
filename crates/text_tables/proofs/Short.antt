-- How long the rows of a table are: one computed test bounds them all. Assumes nothing.
use mathlib.Core.Bool.{Bool, true, false, not, cond}
use mathlib.Core.List.{List, [], ◌∷◌}
use Prim.Native.Nat.{ℕ, zero, suc, ◌≤◌}
use native.Mathlib.Omega.{arith}
use lib.Dec.{T, eqb}
use lib.ListN.{length, drop}
use lib.Seq.{length-take-le}
use Rattle.words.specs.Ascii.{byte}
use Rattle.text_tables.specs.Tables.{line_length, row_at}

-- no line is longer than m bytes, the first no longer than left
abbrev pub no_longer : ℕ → ℕ → List ℕ → Bool
no_longer m left [] = true
no_longer m zero (c ∷ s) = cond (eqb c (byte "\n")) (no_longer m m s) false
no_longer m (suc left) (c ∷ s) = cond (eqb c (byte "\n")) (no_longer m m s) (no_longer m left s)

-- a first line of n bytes, and the lines behind it
record Line (m left : ℕ) (s : List ℕ) (n : ℕ) : Type 0 where
  few : n ≤ left
  inside : n ≤ length s
  rest : T (no_longer m m (drop (suc n) s))

line : (m left : ℕ) (s : List ℕ) → T (no_longer m left s) → Line m left s (line_length s)
line m left [] t = record { few = omega arith; inside = omega arith; rest = tt }
line m zero (c ∷ s) t = by (eqb c (byte "\n")) t
  where
    by : (b : Bool) → T (cond b (no_longer m m s) false) → Line m zero (c ∷ s) (cond (not b) (suc (line_length s)) 0)
    by true u = record { few = omega arith; inside = omega arith; rest = u }
    by false u = absurd u
line m (suc left) (c ∷ s) t = by (eqb c (byte "\n")) t (line m left s)
  where
    by : (b : Bool) → T (cond b (no_longer m m s) (no_longer m left s)) → (T (no_longer m left s) → Line m left s (line_length s))
        → Line m (suc left) (c ∷ s) (cond (not b) (suc (line_length s)) 0)
    by true u next = record { few = omega arith; inside = omega arith; rest = u }
    by false u next = record { few = omega (arith, (next u).few); inside = omega (arith, (next u).inside); rest = (next u).rest }

pub row-length : (m k : ℕ) (s : List ℕ) → T (no_longer m m s) → length (row_at k s) ≤ m
unfolding row_at
row-length m zero s t = rw (length-take-le (line_length s) s (line m m s t).inside) (line m m s t).few
row-length m (suc k) s t = row-length m k (drop (suc (line_length s)) s) (line m m s t).rest
