-- `answers::part_answer` meets its contract: no form, anything beyond the four lines, left, kept.
use mathlib.Core.Path.{sym, ap, ◌∙◌}
use native.Mathlib.Omega.{arith}
use Rattle.std.specs.Prelude.{Err}
use Rattle.std.proofs.lemmas.Result.{err_from_is_err_and}
use Rattle.card_salvage.proofs.answers.Verdicts.{no_form, stray, kept, left}
use Rattle.card_salvage.proofs.answers.part_answer.Goals as goal

pub returns-in_default : goal.returns-in_default
returns-in_default c = no_form c.args.part.now c.args.last (sym c.in_default.is ∙ c.card_form.ensures)

pub returns-then-f-part : goal.returns-then-f-part
returns-then-f-part c = stray c.args.part.now c.args.last _ (sym c.in-Some.is ∙ c.card_form.ensures) (λ e. omega (arith, c.if-f-part.true))

pub judged-requires : goal.judged-requires
judged-requires c = sym c.in-Some.is ∙ c.card_form.ensures

pub returns-in_err-card : goal.returns-in_err-card
returns-in_err-card c =
    let refused = err_from_is_err_and c.from_residual.result c.from_residual.ensures.1 in
    refused.1 ∙ ap Err refused.2
    ∙ left c.args.part.now c.args.last _ (sym c.in-Some.is ∙ c.card_form.ensures) (omega (arith, c.if-f-part.false)) (sym c.in_err-card.was
    ∙ c.judged.ensures)

pub returns : goal.returns
returns c =
    kept c.args.part.now c.args.last _ (sym c.in-Some.is ∙ c.card_form.ensures) (omega (arith, c.if-f-part.false)) (sym c.in_ok-card.was
    ∙ c.judged.ensures)
