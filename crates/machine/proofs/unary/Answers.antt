-- `unary` meets its contract: the tests are those of `taking`, `if_zero` and `unary_of`.
use Rattle.std.specs.Prelude.{Option}
use mathlib.Core.Path.{sym, ap, ◌∙◌}
use Rattle.operators.specs.Tables.{unary_of}
use Rattle.code.specs.Instructions.{word_of}
use Rattle.code.specs.private.Classes.{of_unary, number_of}
use Rattle.machine.proofs.Performs.{zero-unary, spoilt, unspoilt, stuck-anyway, unknown-made, short-unary, unary-made}
use Rattle.machine.proofs.unary.Goals as goal
use Rattle.operators.specs.declared.UnaryOp.{UnaryOp}

pub returns-then-h-lt1 : goal.returns-then-h-lt1
returns-then-h-lt1 c = λ E l.
    let a = c.args in
    let k = number_of a.w in
    let d = word_of a.w in
    c.stuck_step.ensures ∙ stuck-anyway a.reals E a.h l a.v (of_unary (unary_of k)) d (zero-unary (unary_of k) d)
    (short-unary a.reals E a.h l a.v (unary_of k) c.if-h-lt1.true)

pub returns-then-word_of-ne0 : goal.returns-then-word_of-ne0
returns-then-word_of-ne0 c = λ E l.
    let a = c.args in
    let k = number_of a.w in
    let d = word_of a.w in
    c.stuck_step-then-word_of-ne0.ensures ∙ spoilt a.reals E a.h l a.v (of_unary (unary_of k)) d (zero-unary (unary_of k) d) c.word_of.ensures
    c.if-word_of-ne0.true

pub returns-in-Some : goal.returns-in-Some
returns-in-Some c = λ E l.
    let a = c.args in
    let k = number_of a.w in
    let d = word_of a.w in
    let is = sym (rw c.number_of.ensures at
    c.unary_of.ensures) ∙ c.in-Some.is in
    unspoilt a.reals E a.h l a.v (of_unary (unary_of k)) d c.word_of.ensures
    c.if-word_of-ne0.false
    (unary-made a.reals E a.h l a.v k c.in-Some.o is
    c.if-h-lt1.false c.unary_in.ensures c.outcome_step.ensures)

pub returns-in-None : goal.returns-in-None
returns-in-None c = λ E l.
    let a = c.args in
    let k = number_of a.w in
    let d = word_of a.w in
    let is = sym (rw c.number_of.ensures at
    c.unary_of.ensures) ∙ c.in-None.is in
    c.stuck_step-in-None.ensures ∙ stuck-anyway a.reals E a.h l a.v (of_unary (unary_of k)) d (zero-unary (unary_of k) d)
    (unknown-made a.reals E a.h l a.v (of_unary (unary_of k) 0) (ap (λ (u : (Option UnaryOp)). of_unary u 0) is))
