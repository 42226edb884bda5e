-- `values::singles::product` meets its contract. The loop's invariant: p is 1.0 multiplied by x once for each turn.
use Rattle.std.proofs.Common.{◌≡◌}
use Rattle.values.proofs.singles.Powers.{multiplied}
use Rattle.values.proofs.singles.product.Given as goal

abbrev pub invariant-loop : goal.invariant-loop
invariant-loop l = l.p ≡ multiplied l.x l.counter
