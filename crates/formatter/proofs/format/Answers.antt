-- `format` meets its contract.
use mathlib.Core.Path.{sym, ◌∙◌}
use native.Mathlib.Omega.{arith}
use Rattle.formatter.proofs.Whole.{accepted-text, refused-answer, small-answer, good-answer}
use Rattle.formatter.proofs.format.Goals as goal

pub returns-then-out-lt-LEAST_OUT : goal.returns-then-out-lt-LEAST_OUT
returns-then-out-lt-LEAST_OUT c =
    let pair = small-answer c.args.text.now c.args.out.now (accepted-text c.args.text.now (sym c.in-Ok.is ∙ c.judge.ensures))
    c.if-out-lt-LEAST_OUT.true in
    record { value = pair.0; out_after = pair.1 }

pub written-n-requires : goal.written-n-requires
written-n-requires c = accepted-text c.args.text.now (sym c.in-Ok.is ∙ c.judge.ensures)

pub returns-in-Err : goal.returns-in-Err
returns-in-Err c =
    let pair = refused-answer c.args.text.now c.args.out.now (sym c.in-Err.is ∙ c.judge.ensures) in
    record { value = pair.0; out_after = pair.1 }

pub returns-else-out-lt-LEAST_OUT : goal.returns-else-out-lt-LEAST_OUT
returns-else-out-lt-LEAST_OUT c =
    let k = accepted-text c.args.text.now (sym c.in-Ok.is ∙ c.judge.ensures) in
    let pair = good-answer c.args.text.now c.args.out.now k (omega (arith, c.if-out-lt-LEAST_OUT.false))
    (c.finish.ensures _ (c.written-n.ensures.holds k.tree k.is)) in
    record { value = pair.0; out_after = pair.1 }
