-- `since` meets its contract: the tests are those of `taking` and `if_zero`.
use mathlib.Core.Path.{refl, ◌∙◌}
use Rattle.memory.specs.Environment.{memory_at}
use Rattle.code.specs.Instructions.{apply_since, word_of}
use Rattle.machine.proofs.Performs.{unspoilt, stuck-anyway, short-since, since-made}
use Rattle.machine.proofs.since.Goals as goal

pub returns-then-h-lt1 : goal.returns-then-h-lt1
returns-then-h-lt1 c = λ b m l.
    let a = c.args in
    let E = memory_at a.tick m in
    c.stuck_step.ensures ∙ stuck-anyway b E a.h l a.v apply_since (word_of a.w) refl (short-since b E a.h l a.v c.if-h-lt1.true)

pub returns : goal.returns
returns c = λ b m l.
    let a = c.args in
    let E = memory_at a.tick m in
    unspoilt b E a.h l a.v apply_since (word_of a.w) c.word_of.ensures c.if-word_of-ne0.false
    (since-made b E a.h l a.v c.if-h-lt1.false c.since.ensures c.outcome_step.ensures)
