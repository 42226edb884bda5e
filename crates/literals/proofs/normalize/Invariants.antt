-- `normalize` meets its contract: the number stays as many times 2 as it was doubled, and it cannot be doubled often.
use Prim.Native.Nat.{◌-◌}
use Rattle.literals.specs.private.MixedNumbers.{numerator}
use Rattle.literals.proofs.MixedNumbers.{Doubled}
use Rattle.literals.proofs.normalize.Given as goal

abbrev pub invariant-loop-number : goal.invariant-loop-number
invariant-loop-number l =
    let x = l.initial.number in
    Doubled x.b x.a (numerator x.b x.a x) l.shift l.number

abbrev pub decreases-loop-number : goal.decreases-loop-number
decreases-loop-number l = 142 - l.shift
