-- `draft::settle` meets its contract: five words are stored.
use Rattle.draft.proofs.Words.{settle-way}
use Rattle.draft.proofs.settle.Goals as goal

pub returns : goal.returns
returns c =
    settle-way c.args.draft.now c.args.j c.args.k c.requires.0 c.requires.1 c.put.ensures c.put-2.ensures c.put-3.ensures
    c.put-4.ensures c.put-5.ensures
