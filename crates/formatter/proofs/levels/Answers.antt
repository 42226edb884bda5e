-- `levels` meets its contract. The invariant: the most so far, or the most from here on, is the most.
use mathlib.Core.Path.{◌∙◌}
use native.Mathlib.Nat.{zero-max}
use native.Mathlib.Omega.{arith}
use lib.ListN.{get_or}
use Rattle.formatter.proofs.Depths.{open-most, depth-step, depth-end}
use Rattle.formatter.proofs.levels.Goals as goal

pub loop-b-init : goal.loop-b-init
loop-b-init c = (omega arith, omega arith, zero-max _)

pub loop-b-preserved : goal.loop-b-preserved
loop-b-preserved c =
    let l = c.loop-b in
    let text = c.args.text.now in
    let o = c.open_behind-depth.ensures in
    let m = c.max-most.ensures in (
      omega (arith, o, open-most l.depth (get_or text l.b-index 0), l.invariant.0),
      omega (arith, m),
      depth-step text l.b-index l.most l.depth c.loop-b-test.true m o l.invariant.1 ∙ l.invariant.2,
    )

pub returns : goal.returns
returns c =
    let l = c.loop-b in
    depth-end c.args.text.now l.b-index l.most l.depth (omega arith) l.invariant.1 ∙ l.invariant.2
