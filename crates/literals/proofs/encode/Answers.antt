-- `encode` meets its contract: the number is normalized, then rounded, over the same denominator.
use Rattle.literals.specs.private.MixedNumbers.{numerator}
use Rattle.literals.proofs.encode.Goals as goal

pub returns : goal.returns
returns c =
    let x = c.args.x in
    let r = c.normalize.ensures.represents in
    rw (r.b-is, r.a-is) at (c.rounded.ensures.is (numerator x.b x.a x) (rw (r.b-is, r.a-is) r.is))
