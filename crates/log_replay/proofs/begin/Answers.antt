-- `begin` meets its contract.
use Rattle.log_replay.proofs.Calling.{afresh, resumed}
use Rattle.log_replay.proofs.begin.Goals as goal

pub returns : goal.returns
returns c = resumed c.args.memory.now c.args.at c.args.tick c.if-at-eq0.false

pub returns-then-at-eq0 : goal.returns-then-at-eq0
returns-then-at-eq0 c =
    afresh c.args.memory.now c.args.at c.args.tick c.requires c.if-at-eq0.true c.blank_image-zeros.ensures.1 c.blank_image-zeros.ensures.0 c.put_all.ensures
