-- `outputs::named_size` meets its contract.
use Rattle.card_salvage.proofs.outputs.Taken.{name-there}
use Rattle.card_salvage.proofs.outputs.named_size.Goals as goal

pub returns-in-Err : goal.returns-in-Err
returns-in-Err c = name-there c.args.first c.args.size
    c.in-Err.is c.name_size.ensures
