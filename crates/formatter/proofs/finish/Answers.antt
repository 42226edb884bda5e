-- `finish` meets its contract.
use mathlib.Core.Path.{sym}
use native.Mathlib.Omega.{arith}
use lib.Seq.{length-take-le}
use Rattle.formatter.proofs.Whole.{too_long, too_deep, part-short}
use Rattle.formatter.proofs.finish.Goals as goal

pub returns-then-n-gt-LONGEST : goal.returns-then-n-gt-LONGEST
returns-then-n-gt-LONGEST c = λ x h. too_long c.requires.0 c.args.out.now c.if-n-gt-LONGEST.true h

pub slice_bounds-whole-end : goal.slice_bounds-whole-end
slice_bounds-whole-end c =
    let s = c in
    sym (length-take-le s.args.n s.args.scratch.now (omega (arith, c.if-n-gt-LONGEST.false, s.requires.0)))

pub levels-requires : goal.levels-requires
levels-requires c = let s = c in
    part-short s.args.scratch.now s.args.n s.requires.0 (omega (arith, c.if-n-gt-LONGEST.false))

pub returns-then-levels-gt-MOST_OPEN : goal.returns-then-levels-gt-MOST_OPEN
returns-then-levels-gt-MOST_OPEN c = λ x h. too_deep c.requires.0 (omega (arith, c.if-n-gt-LONGEST.false))
    c.args.out.now c.levels.ensures c.if-levels-gt-MOST_OPEN.true h

pub put_all-requires : goal.put_all-requires
put_all-requires c =
    let s = c in
    let k = part-short s.args.scratch.now s.args.n s.requires.0 (omega (arith, c.if-n-gt-LONGEST.false)) in
    omega (arith, k, s.requires.1)
