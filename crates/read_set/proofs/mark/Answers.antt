-- `mark` meets its contract. The invariant: what is left of the code, besides what is reached, is what the whole code reads.
use native.Mathlib.Omega.{arith}
use Rattle.read_set.proofs.Marking.{turn, ends}
use Rattle.read_set.proofs.mark.Goals as goal

pub loop-place-preserved : goal.loop-place-preserved
loop-place-preserved c =
    let l = c.loop-place.invariant in
    (l.0, l.1, turn l.2 (omega arith) c.fetch.ensures c.interval_of-cells.ensures c.extend.ensures)

pub returns : goal.returns
returns c = ends c.loop-place.invariant.2 c.loop-place.invariant.1 c.loop-place-test.false
