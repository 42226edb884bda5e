-- `printing::spell` meets its contract. The loop's invariant: the first i digits are left to put. The measure is how many they are.
use mathlib.Core.Path.{◌≡◌, ◌∙◌}
use native.Mathlib.Omega.{arith}
use lib.ListN.{length}
use lib.Seq.{length-sets}
use Rattle.lines.proofs.Stores.{start, long}
use Rattle.lines.proofs.printing.Digits.{length_digits, inside, next, end}
use Rattle.lines.proofs.printing.spell.Goals as goal

pub loop-i-init : goal.loop-i-init
loop-i-init c = start _ _ _ (rw length_digits c.requires.k_in_bounds)

pub overflow_add-out : goal.overflow_add-out
overflow_add-out c =
    let h : length c.loop-i.out ≡ length c.args.out.now = long c.loop-i.invariant ∙ simp length-sets in
    omega (arith, inside c.args.base c.loop-i.rest c.loop-i.i c.loop-i.invariant)

pub bounds-out-at : goal.bounds-out-at
bounds-out-at c = omega (arith, inside c.args.base c.loop-i.rest c.loop-i.i c.loop-i.invariant)

pub loop-i-preserved : goal.loop-i-preserved
loop-i-preserved c = next _ _ _ _ c.loop-i-test.true c.digit.ensures c.loop-i.invariant

pub returns : goal.returns
returns c = record { bytes = end _ _ _ c.loop-i-test.false c.loop-i.invariant; end = rw length_digits }
