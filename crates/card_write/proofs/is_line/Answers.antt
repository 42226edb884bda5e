-- `is_line` meets its contract.
use Rattle.card_write.proofs.Sizes.{line-test}
use Rattle.card_write.proofs.is_line.Goals as goal

pub returns : goal.returns
returns c = line-test c.args.text.now c.until.ensures
