-- `push_int` meets its contract.
use mathlib.Core.Path.{refl, ◌∙◌}
use borrow.Author.Rules.{rules}
use mir.Syntax.{w32}
use mir.Val.{SFits}
use mir.ValLaws.{to_z-of_z}
use Rattle.code.specs.Instructions.{push_int, word_of}
use Rattle.machine.proofs.Performs.{free}
use Rattle.machine.proofs.push_int.Goals as goal

pub returns : goal.returns
returns c = λ b E l r.
    let a = c.args in
    let z = c.from_pattern.result in
    let F : SFits w32 z = search rules in
    (rw (to_z-of_z w32 z F, c.from_pattern.ensures, c.word_of.ensures) at c.push_step.ensures)
    ∙ free b E a.h l r (push_int (word_of a.w)) refl
