-- `put_lines` meets its contract: five texts, one behind the other.
use Rattle.card_write.proofs.Putting.{lines_of}
use Rattle.lines.proofs.Stores.{then, as-text}
use Rattle.card_write.proofs.put_lines.Goals as goal

pub returns : goal.returns
returns c =
    as-text (lines_of c.args.target.now c.args.expr.now)
    (then (then (then (then c.put_all-a.ensures c.put_all-b.ensures) c.put_all-c.ensures) c.put_all-d.ensures) c.put_all.ensures)
