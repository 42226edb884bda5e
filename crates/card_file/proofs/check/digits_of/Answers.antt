-- `check::digits_of` meets its contract.
use Rattle.card_file.proofs.check.Sums.{five}
use Rattle.card_file.proofs.check.digits_of.Goals as goal

pub returns : goal.returns
returns c = five c.args.n _ _ _ _ _ c.digit-first.ensures
    c.digit.ensures c.digit-2.ensures c.digit-3.ensures c.digit-4.ensures
