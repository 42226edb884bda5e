-- Edges of totals, one equation each: zeros of both signs, sums that leave their range, cells that cannot be read, and the IF forms.
-- Singles by their patterns.
use mathlib.Core.Path.{◌≡◌, refl}
use mathlib.Core.Bool.{cond}
use Prim.Native.Nat.{ℕ}
use lib.Dec.{eqb}
use lib.IntN.{ℤ, pos, negsuc}
use lib.Ieee as Ieee
use lib.Ieee.{Float, fin, binary32, to_bits, of_bits}
use Rattle.values.specs.declared.Value.TheVariants.{Int, Real}
use Rattle.values.specs.declared.Fault.{Fault}
use Rattle.values.specs.declared.Fault.TheVariants.{Overflow, OutOfRange}
use Rattle.values.specs.declared.Outcome.{Outcome}
use Rattle.values.specs.declared.Outcome.TheVariants.{Done, Stopped, WrongKind}
use Rattle.values.specs.declared.ChoiceOp.TheVariants.{Max, Min}
use Rattle.values.specs.declared.CompareOp.TheVariants.{Lt, Le, Gt, Eq}
use Rattle.memory.specs.declared.Bank.TheVariants.{X, D, R}
use Rattle.memory.specs.Cells.{real_cell}
use Rattle.memory.specs.Environment.{Environment}
use Rattle.totals.specs.declared.TotalOp.TheVariants as T'
use Rattle.totals.specs.declared.MatchOp.TheVariants as M'
use Rattle.totals.specs.declared.Visited.{Visited}
use Rattle.totals.specs.Totals.{total_over, match_over}

-- the first three cells of every bank
abbrev holding : Outcome → Outcome → Outcome → Environment
holding x y z = record { cell = λ b i. cond (eqb i 0) x (cond (eqb i 1) y z); tick = 0 }

abbrev int : ℤ → Outcome
int z = Done (Int z)

-- the largest single and its negative, both zeros, 1.5, and a NaN, as R reads them
abbrev huge : Outcome
huge = real_cell 0x7f7fffff

abbrev minus-huge : Outcome
minus-huge = real_cell 0xff7fffff

abbrev plus-zero : Outcome
plus-zero = real_cell 0

abbrev minus-zero : Outcome
minus-zero = real_cell 0x80000000

abbrev nothing : Outcome
nothing = real_cell 0x7fc00000

-- a result as numbers: a single by its pattern, or a fault; and the cells begun
data Seen : Type 0 where
  whole : ℤ → ℕ → Seen
  single : ℕ → ℕ → Seen
  fault : Fault → ℕ → Seen
  kind : ℕ → Seen

abbrev seen : Visited → Seen
seen r = by r.result
  where
    by : Outcome → Seen
    by (Done (Int z)) = whole z r.cells
    by (Done (Real x)) = single (to_bits binary32 x) r.cells
    by (Stopped f) = fault f r.cells
    by WrongKind = kind r.cells

-- ---- zeros: the sum begins as 0.0, MAXR and MINR with the first cell, and neither zero is below the other
lone : seen (total_over (holding minus-zero nothing nothing) T'.Sum R 0 1) ≡ single 0 1
unfolding total_over Ieee.add Ieee.sum of_bits to_bits
lone = refl

greatest-of-zeros : seen (total_over (holding minus-zero plus-zero nothing) (T'.Choice Max) R 0 2) ≡ single 0x80000000 2
unfolding total_over Ieee.lt of_bits to_bits
greatest-of-zeros = refl

greatest-of-zeros-turned : seen (total_over (holding plus-zero minus-zero nothing) (T'.Choice Max) R 0 2) ≡ single 0 2
unfolding total_over Ieee.lt of_bits to_bits
greatest-of-zeros-turned = refl

-- ---- a real sum that is infinite at the second cell: 12 there, and what stands behind is not looked at
overflows : seen (total_over (holding huge huge minus-huge) T'.Sum R 0 3) ≡ fault Overflow 2
unfolding total_over Ieee.add Ieee.sum of_bits
overflows = refl

overflows-before-nan : seen (total_over (holding huge huge nothing) T'.Sum R 0 3) ≡ fault Overflow 2
unfolding total_over Ieee.add Ieee.sum of_bits
overflows-before-nan = refl

-- MAXR ignores the sum, and meets the NaN
greatest-meets-nan : seen (total_over (holding huge huge nothing) (T'.Choice Max) R 0 3) ≡ fault OutOfRange 3
unfolding total_over Ieee.lt of_bits
greatest-meets-nan = refl

least-past-overflow : seen (total_over (holding huge huge minus-huge) (T'.Choice Min) R 0 3) ≡ single 0xff7fffff 3
unfolding total_over Ieee.lt of_bits to_bits
least-past-overflow = refl

-- ---- an integer sum that would come back; AVGR of the same cells is real, and in the order of the cells
comes_back : seen (total_over (holding (int (pos 2147483647)) (int (pos 1)) (int (negsuc 0))) T'.Sum D 0 3) ≡ fault Overflow 2
unfolding total_over
comes_back = refl

average-of-integers : seen (total_over (holding (int (pos 1)) (int (pos 2)) (int (pos 3))) T'.Average D 0 2) ≡ single 0x3fc00000 2
unfolding total_over Ieee.add Ieee.sum Ieee.div Ieee.eq Ieee.of_int to_bits
average-of-integers = refl

average-past-32-bits : seen (total_over (holding (int (pos 2147483647)) (int (pos 1)) (int (negsuc 0))) T'.Average D 0 2) ≡ single 0x4e800000 2
unfolding total_over Ieee.add Ieee.sum Ieee.div Ieee.eq Ieee.of_int to_bits
average-past-32-bits = refl

-- ---- the IF forms: cell on the left, equal cells apart, a cell that cannot be read even where it would not match, no match
below : seen (match_over (holding (int (pos 1)) (int (pos 2)) (int (pos 3))) (M'.Count Lt) (Int (pos 2)) D 0 3) ≡ whole (pos 1) 3
unfolding match_over
below = refl

up_to : seen (match_over (holding (int (pos 1)) (int (pos 2)) (int (pos 3))) (M'.Sum Le) (Int (pos 2)) D 0 3) ≡ whole (pos 3) 3
unfolding match_over
up_to = refl

unread : seen (match_over (holding plus-zero nothing plus-zero) (M'.Count Gt) (Int (pos 5)) R 0 3) ≡ fault OutOfRange 2
unfolding match_over Ieee.lt Ieee.of_int of_bits
unread = refl

unmatched : seen (match_over (holding huge minus-zero minus-zero) (M'.Sum Lt) (Int (negsuc 0)) R 0 3) ≡ single 0 3
unfolding match_over Ieee.lt Ieee.of_int of_bits to_bits
unmatched = refl

bits : seen (match_over (holding (int (pos 1)) (int (pos 0)) (int (pos 1))) (M'.Count Eq) (Int (pos 1)) X 0 3) ≡ whole (pos 2) 3
unfolding match_over
bits = refl
