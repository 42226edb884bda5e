-- `playable_bytes` meets its contract.
use Rattle.log_window.proofs.Ends.{all-of-it, whole-lines, too_short, too_long}
use Rattle.log_window.proofs.playable_bytes.Goals as goal

pub returns-then-last : goal.returns-then-last
returns-then-last c = all-of-it c.args.size c.args.last c.args.held.now c.if-last.true

pub returns-then-n-gt0 : goal.returns-then-n-gt0
returns-then-n-gt0 c = whole-lines c.args.size c.args.last
    c.args.held.now c.if-last.false c.through_last_end-n.ensures c.if-n-gt0.true

pub returns-then-held-size : goal.returns-then-held-size
returns-then-held-size c = too_short c.args.size c.args.last
    c.args.held.now c.if-last.false c.through_last_end-n.ensures
    c.if-n-gt0.false c.if-held-size.true

pub returns-else-held-size : goal.returns-else-held-size
returns-else-held-size c = too_long c.args.size c.args.last
    c.args.held.now c.if-last.false c.through_last_end-n.ensures
    c.if-n-gt0.false c.if-held-size.false
