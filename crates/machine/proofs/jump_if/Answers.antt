-- `jump_if` meets its contract: the tests are those of `jump_step`, of a value that is admitted.
use borrow.Author.Tests.{lt-ltb}
use mathlib.Core.Path.{◌∙◌}
use Rattle.code.specs.declared.Instr.TheVariants.{JumpIf}
use Rattle.code.specs.Instructions.{word_of}
use Rattle.machine.proofs.Performs.{stuck-in}
use Rattle.machine.proofs.jump_if.Goals as goal

pub returns-then-h-lt1 : goal.returns-then-h-lt1
returns-then-h-lt1 c = λ E l.
    let a = c.args in
    c.stuck_step.ensures ∙ stuck-in a.reals E a.h l a.v (JumpIf a.t (word_of a.w)) (rw (lt-ltb a.h 1 c.if-h-lt1.true))
