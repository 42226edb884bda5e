-- `jump` meets its contract.
use mathlib.Core.Path.{refl, ap, ◌∙◌}
use Rattle.code.specs.declared.Instr.TheVariants.{Jump}
use Rattle.code.specs.Instructions.{word_of}
use Rattle.machine.specs.private.Steps.{skip_step}
use Rattle.machine.proofs.Performs.{free}
use Rattle.machine.proofs.jump.Goals as goal

pub returns : goal.returns
returns c = λ b E l r.
    let a = c.args in
    c.skip_step.ensures ∙ ap (skip_step a.h) c.word_of.ensures ∙ free b E a.h l r (Jump (word_of a.w)) refl
