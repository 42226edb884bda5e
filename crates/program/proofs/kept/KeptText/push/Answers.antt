-- `KeptText::push` meets its contract: the text grows, or is full.
use Rattle.program.proofs.kept.Pushing.{grown, full}
use Rattle.program.proofs.kept.KeptText.push.Goals as goal

pub returns-then-self-lt-KEPT_BYTES : goal.returns-then-self-lt-KEPT_BYTES
returns-then-self-lt-KEPT_BYTES c =
    rw (← c.self.view_is) (grown c.self.inside.bytes c.self.inside.length c.args.b c.self.told c.if-self-lt-KEPT_BYTES.true)

pub returns-else-self-lt-KEPT_BYTES : goal.returns-else-self-lt-KEPT_BYTES
returns-else-self-lt-KEPT_BYTES c =
    rw (← c.self.view_is) (full c.self.inside.bytes c.self.inside.length c.args.b c.self.told c.if-self-lt-KEPT_BYTES.false c.self.invariant)
