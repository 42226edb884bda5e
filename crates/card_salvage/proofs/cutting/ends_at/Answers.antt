-- `cutting::ends_at` meets its contract.
use Rattle.card_salvage.proofs.cutting.Ends.{no_end, line-end}
use lib.ListN.{drop}
use Prim.Native.Nat.{◌+◌}
use Rattle.card_salvage.proofs.cutting.ends_at.Goals as goal

pub returns-then-file-at-ne10 : goal.returns-then-file-at-ne10
returns-then-file-at-ne10 c = no_end _ (drop (c.args.at + 1) c.args.file.now) c.if-file-at-ne10.true

pub returns : goal.returns
returns c = line-end _ (drop (c.args.at + 1) c.args.file.now)
    c.if-file-at-ne10.false c.card_begins.ensures
