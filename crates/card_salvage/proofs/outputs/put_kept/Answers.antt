-- `outputs::put_kept` meets its contract.
use Rattle.card_salvage.proofs.outputs.Taken.{kept-room, put-kept, left-kept}
use Rattle.card_salvage.proofs.outputs.put_kept.Goals as goal

pub put_all-requires : goal.put_all-requires
put_all-requires c = kept-room c.args.part.now c.args.at
    c.in-Ok.is c.requires

pub returns-in-Ok : goal.returns-in-Ok
returns-in-Ok c = put-kept c.in-Ok.is c.put_all.ensures

pub returns-in-Err : goal.returns-in-Err
returns-in-Err c = left-kept c.args.out.now c.args.part.now
    c.args.at c.in-Err.is
