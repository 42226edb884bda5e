-- `printing::spell` meets its contract. The loop's invariant: the first i digits are left to put. The measure is how many they are.
use lib.Seq.{sets}
use Rattle.lines.specs.Printing.{low_digits}
use Rattle.lines.proofs.Stores.{Left}
use Rattle.lines.proofs.printing.spell.Given as goal

abbrev pub invariant-loop-i : goal.invariant-loop-i
invariant-loop-i l = Left (sets l.initial.out l.at (low_digits l.base l.k l.n)) l.out l.at (low_digits l.base l.i l.rest)

abbrev pub decreases-loop-i : goal.decreases-loop-i
decreases-loop-i l = l.i
