-- `cutting::card_begins` meets its contract.
use Rattle.card_salvage.proofs.cutting.Ends.{too_short, key-there}
use Rattle.card_salvage.proofs.cutting.card_begins.Goals as goal

pub returns-then-file-at-lt5 : goal.returns-then-file-at-lt5
returns-then-file-at-lt5 c = too_short c.args.file.now c.args.at c.if-file-at-lt5.true

pub returns : goal.returns
returns c = key-there c.args.file.now c.args.at
    c.same_bytes.ensures
