-- `load_from` meets its contract: the test is that of `bank_step`.
use mathlib.Core.Path.{ap, ◌∙◌}
use Rattle.memory.specs.Environment.{memory_of}
use Rattle.machine.specs.private.Steps.{outcome_step}
use Rattle.machine.proofs.Performs.{in-bank, past-bank}
use Rattle.machine.proofs.load_from.Goals as goal

pub returns-then-word-layout_of : goal.returns-then-word-layout_of
returns-then-word-layout_of c = in-bank (memory_of c.args.image.now)
    c.args.h c.args.bank
    c.args.word c.layout_of.ensures c.if-word-layout_of.true
    (c.outcome_step.ensures ∙ ap (outcome_step c.args.h) c.read.ensures)

pub returns-else-word-layout_of : goal.returns-else-word-layout_of
returns-else-word-layout_of c = c.stuck_step.ensures ∙ past-bank (memory_of c.args.image.now)
    c.args.h c.args.bank
    c.args.word c.layout_of.ensures c.if-word-layout_of.false
