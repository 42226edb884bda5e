-- `walk::operator` meets its contract.
use Rattle.formatter.proofs.Pieces.{spaced}
use Rattle.formatter.proofs.walk.operator.Goals as goal

pub returns-clause-by_index : goal.returns-clause-by_index
returns-clause-by_index c =
    λ o h. spaced c.args.text.now c.args.w c.put-before.ensures.by_index c.token-end.ensures.by_index c.put.ensures.by_index o h
