-- `fit_row` meets its contract: what fits of the row is put.
use mathlib.Core.Path.{ap, ◌∙◌}
use lib.ListN.{length}
use lib.Seq.{sets}
use Rattle.text_tables.proofs.Fits.{fitting}
use Rattle.text_tables.proofs.fit_row.Goals as goal

pub returns : goal.returns
returns c =
    let out = c.args.out.now in
    let same = c.row-row.ensures in
    (ap length same, c.put_all.ensures.bytes ∙ fitting c.row-row.result.now out c.min-n.result c.min-n.ensures ∙ ap (sets out 0) same)
