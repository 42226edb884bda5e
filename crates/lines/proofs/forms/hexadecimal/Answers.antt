-- `forms::hexadecimal` meets its contract: the text has ten bytes and begins with `0x`, and the rule for hexadecimal digits does the rest.
use mathlib.Core.Path.{ap, ◌∙◌}
use native.Mathlib.Omega.{arith}
use Rattle.lines.specs.private.Steps.{scanned_form}
use Rattle.lines.proofs.forms.Hexadecimals.{pattern}
use Rattle.lines.proofs.forms.hexadecimal.Goals as goal

pub returns-in-48 : goal.returns-in-48
returns-in-48 c =
    c.scanned_form.ensures ∙ ap scanned_form c.hexadecimal.ensures
    ∙ pattern c.args.text.now (omega arith) (omega arith) (omega arith) (omega (arith, c.if-digits-eq8.true))
