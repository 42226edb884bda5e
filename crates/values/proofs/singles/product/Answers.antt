-- `values::singles::product` meets its contract. The loop's invariant: p is 1.0 multiplied by x once for each turn.
use Rattle.std.proofs.Common.{◌≡◌, ◌∙◌, arith}
use Rattle.values.proofs.singles.Powers.{settles-last}
use Rattle.values.proofs.singles.product.Goals as goal

pub returns : goal.returns
returns c =
    let l = c.loop in
    let s : l.counter ≡ c.args.n = omega arith in
    c.settled.ensures ∙ rw (l.invariant, s) (settles-last c.args.x c.args.n)
