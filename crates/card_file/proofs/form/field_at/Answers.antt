-- `form::field_at` meets its contract: one law for each way through it.
use mathlib.Core.Path.{sym, ◌∙◌}
use Rattle.card_file.proofs.form.Fields.{short, other, unended, found}
use Rattle.card_file.proofs.form.field_at.Goals as goal

pub returns-then-s-at : goal.returns-then-s-at
returns-then-s-at c = short c.args.s.now c.args.at c.args.key.now c.if-s-at.true

pub returns-then-not-same_bytes : goal.returns-then-not-same_bytes
returns-then-not-same_bytes c = other c.args.s.now c.args.at
    c.args.key.now (sym c.if-not-same_bytes.true ∙ c.same_bytes.ensures)

pub returns-then-n-s : goal.returns-then-n-s
returns-then-n-s c =
    unended c.args.s.now c.args.at c.args.key.now (sym c.if-not-same_bytes.false
    ∙ c.same_bytes.ensures) c.until-n.ensures c.if-n-s.true

pub returns : goal.returns
returns c =
    found c.args.s.now c.args.at c.args.key.now (sym c.if-not-same_bytes.false
    ∙ c.same_bytes.ensures) c.until-n.ensures c.if-n-s.false
