-- `normalize` meets its contract: the number stays as many times 2 as it was doubled, and it cannot be doubled often.
use native.Mathlib.Omega.{arith}
use Rattle.literals.proofs.MixedNumbers.{based, few, again}
use Rattle.literals.proofs.normalize.Goals as goal

pub overflow_add-shift : goal.overflow_add-shift
overflow_add-shift c =
    let x = c.args.x in
    record { fits = omega (arith, few c.loop-number.invariant c.requires.1 x.a_small x.b_small) }

pub loop-number-smaller : goal.loop-number-smaller
loop-number-smaller c =
    let x = c.args.x in
    omega (arith, few c.loop-number.invariant c.requires.1 x.a_small x.b_small)

pub loop-number-preserved : goal.loop-number-preserved
loop-number-preserved c =
    let d = c.loop-number.invariant in
    again d (omega (arith, c.loop-number-test.true)) (based 65536 d.represents c.times-number.ensures)

pub returns : goal.returns
returns c =
    let x = c.args.x in
    let d = c.loop-number.invariant in
    let few_times = few d c.requires.1 x.a_small x.b_small in
    record { represents = d.represents; wide = omega (arith, c.loop-number-test.false); fits = d.fits; few = few_times }
