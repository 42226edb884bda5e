-- `walk::formula` meets its contract.
use mathlib.Core.List.{[]}
use Rattle.formatter.proofs.Whole.{from_nothing}
use Rattle.formatter.proofs.walk.formula.Goals as goal

pub returns : goal.returns
returns c =
    let f = c.expression-whole.ensures in
    record { counted = f.counted; by_index = λ x g q m. (f.writes x g q m).text [] (from_nothing c.args.out.now) }
