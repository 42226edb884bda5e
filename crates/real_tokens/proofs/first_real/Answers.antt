-- `first_real` meets its contract.
use mathlib.Core.Path.{refl, sym, ◌∙◌}
use Rattle.real_tokens.proofs.Words.{none_here, real-here, other-here, past-last}
use Rattle.real_tokens.proofs.first_real.Goals as goal

pub returns-then-reals : goal.returns-then-reals
returns-then-reals c = rw c.if-reals.true

pub loop-w-init : goal.loop-w-init
loop-w-init c = refl

pub returns-then-class_of-eq-NONE : goal.returns-then-class_of-eq-NONE
returns-then-class_of-eq-NONE c = rw c.if-reals.false
    (none_here c.args.table.now c.loop-w.w-index
    c.requires c.loop-w.invariant
    (sym c.class_of.ensures ∙ c.if-class_of-eq-NONE.true))

pub returns-then-is_real : goal.returns-then-is_real
returns-then-is_real c = rw c.if-reals.false
    (real-here c.args.table.now
    c.loop-w.w-index c.requires
    c.loop-w.invariant (sym c.is_real.ensures ∙ c.if-is_real.true))

pub loop-w-preserved : goal.loop-w-preserved
loop-w-preserved c = other-here c.args.table.now
    c.loop-w.w-index c.requires
    c.loop-w.invariant (λ e. c.if-class_of-eq-NONE.false (c.class_of.ensures ∙ e))
    (sym c.is_real.ensures ∙ c.if-is_real.false)

pub returns : goal.returns
returns c = rw c.if-reals.false (past-last c.args.table.now c.loop-w.w-index
    c.loop-w.invariant c.loop-w-test.false)
