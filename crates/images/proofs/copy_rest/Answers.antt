-- `images::copy_rest` meets its contract. The invariant: k bytes are copied.
use native.Mathlib.Omega.{arith}
use Rattle.images.proofs.Filling.{copied_none, copied_next, copied_all}
use Rattle.images.proofs.copy_rest.Goals as goal

pub loop-k-init : goal.loop-k-init
loop-k-init c =
    let a = c.args in
    copied_none a.from.now a.at a.to.now a.place

pub loop-k-preserved : goal.loop-k-preserved
loop-k-preserved c = copied_next c.loop-k.invariant (omega (arith, c.requires.1, c.loop-k-test.true))

pub returns : goal.returns
returns c =
    let a = c.args in
    copied_all a.from.now a.at a.to.now a.place c.requires.0 c.requires.1 (omega (arith, c.loop-k-test.false)) c.loop-k.invariant
