-- `form::is_check` meets its contract.
use Rattle.card_file.proofs.form.Fields.{wrong-length, check-digits}
use Rattle.card_file.proofs.form.is_check.Goals as goal

pub returns-then-text-ne5 : goal.returns-then-text-ne5
returns-then-text-ne5 c = wrong-length c.args.text.now c.if-text-ne5.true

pub returns : goal.returns
returns c = check-digits c.args.text.now c.if-text-ne5.false c.digits.ensures.end_value.0
