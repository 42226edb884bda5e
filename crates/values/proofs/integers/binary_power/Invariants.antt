-- `values::integers::binary_power` meets its contract. The loop's invariant: what is held is a to the power of the digits taken, within
-- 32 bits, and the multiplications made and two for each digit left are at most twelve.
use Rattle.values.proofs.integers.Squaring.{Reached}
use Rattle.values.proofs.integers.binary_power.Given as goal

abbrev pub invariant-loop-left : goal.invariant-loop-left
invariant-loop-left l = Reached l.a l.n l.left l.p l.count
