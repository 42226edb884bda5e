-- `judging::formula_verdict` meets its contract: the target, then the expression.
use mathlib.Core.Path.{sym, ◌∙◌}
use Rattle.card_file.proofs.judging.Parts.{no_target_lem, accepted-formula, refused-formula}
use Rattle.card_file.proofs.judging.formula_verdict.Goals as goal

pub returns-then-not-is_target : goal.returns-then-not-is_target
returns-then-not-is_target c = no_target_lem c.args.target.now c.args.expr.now
    (sym c.if-not-is_target.true ∙ c.is_target.ensures)

pub returns-in-Ok : goal.returns-in-Ok
returns-in-Ok c = accepted-formula c.args.target.now
    c.args.expr.now _ (sym c.if-not-is_target.false
    ∙ c.is_target.ensures) (sym c.in-Ok.is ∙ c.judge.ensures)

pub returns-in-Err : goal.returns-in-Err
returns-in-Err c = refused-formula c.args.target.now c.args.expr.now _ _ (sym c.if-not-is_target.false ∙ c.is_target.ensures) (sym
    c.in-Err.is ∙ c.judge.ensures)
