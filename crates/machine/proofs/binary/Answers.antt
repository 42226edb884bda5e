-- `binary` meets its contract: the tests are those of `taking` and `if_zero`.
use mathlib.Core.Path.{◌∙◌}
use Rattle.operators.specs.Tables.{binary_of}
use Rattle.code.specs.Instructions.{word_of}
use Rattle.code.specs.private.Classes.{of_binary, number_of}
use Rattle.machine.proofs.Performs.{zero-binary, spoilt, unspoilt, stuck-anyway, short-binary, binary-made}
use Rattle.machine.proofs.binary.Goals as goal

pub returns-then-h-lt2 : goal.returns-then-h-lt2
returns-then-h-lt2 c = λ E.
    let a = c.args in
    let k = number_of a.w in
    let d = word_of a.w in
    c.stuck_step.ensures ∙ stuck-anyway a.reals E a.h a.left a.v (of_binary (binary_of k)) d (zero-binary (binary_of k) d)
    (short-binary a.reals E a.h a.left a.v (binary_of k) c.if-h-lt2.true)

pub returns-then-word_of-ne0 : goal.returns-then-word_of-ne0
returns-then-word_of-ne0 c = λ E.
    let a = c.args in
    let k = number_of a.w in
    let d = word_of a.w in
    c.stuck_step-then-word_of-ne0.ensures ∙ spoilt a.reals E a.h a.left a.v (of_binary (binary_of k)) d (zero-binary (binary_of k) d)
    c.word_of.ensures c.if-word_of-ne0.true

pub returns : goal.returns
returns c = λ E.
    let a = c.args in
    let k = number_of a.w in
    let d = word_of a.w in
    unspoilt a.reals E a.h a.left a.v (of_binary (binary_of k)) d c.word_of.ensures
    c.if-word_of-ne0.false
    (binary-made a.reals E a.h a.left a.v (binary_of k) c.if-h-lt2.false
    (rw c.number_of.ensures at c.binary_in.ensures) c.outcome_step.ensures)
