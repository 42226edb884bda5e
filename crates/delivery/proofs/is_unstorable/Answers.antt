-- `is_unstorable` meets its contract: nothing with reals, a real without.
use mathlib.Core.Path.{refl}
use Rattle.delivery.proofs.Values.{given-kind}
use Rattle.delivery.proofs.is_unstorable.Goals as goal

pub returns-then-reals : goal.returns-then-reals
returns-then-reals c = λ bits. rw c.if-reals.true refl

pub returns : goal.returns
returns c =
    let s = c in
    λ bits. rw c.if-reals.false (given-kind c.args.kind bits)
