-- `find_card` meets its contract.
use native.Mathlib.Omega.{arith}
use Rattle.log_lines.proofs.Rows.{seek, none_left, met, passed, within}
use Rattle.log_lines.proofs.find_card.Goals as goal

pub loop-card-init : goal.loop-card-init
loop-card-init c = seek c.args.cards.now c.args.read.now c.args.k c.requires (omega arith)

pub overflow_mul-p : goal.overflow_mul-p
overflow_mul-p c = omega (arith, within c.loop-card.invariant (λ e. omega (arith, c.loop-card-test.true)))

pub overflow_add-p : goal.overflow_add-p
overflow_add-p c = omega (arith, within c.loop-card.invariant (λ e. omega (arith, c.loop-card-test.true)))

pub bounds-read-p : goal.bounds-read-p
bounds-read-p c = omega (arith, within c.loop-card.invariant (λ e. omega (arith, c.loop-card-test.true)))

pub returns-then-read-p : goal.returns-then-read-p
returns-then-read-p c = met c.loop-card.invariant (λ e. omega (arith, c.loop-card-test.true)) c.if-read-p.true

pub loop-card-preserved : goal.loop-card-preserved
loop-card-preserved c =
    passed c.loop-card.invariant (λ e. omega (arith, c.loop-card-test.true)) c.if-read-p.false (omega arith) (omega (arith, c.loop-card-test.true))

pub returns : goal.returns
returns c = none_left c.loop-card.invariant (omega (arith, c.loop-card-test.false))
