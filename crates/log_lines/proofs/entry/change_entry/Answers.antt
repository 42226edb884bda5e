-- `change_entry` meets its contract.
use mathlib.Core.Path.{sym, ◌∙◌}
use mathlib.Core.Bool.{true, false}
use native.Mathlib.Omega.{arith}
use Rattle.program.proofs.reply.Whole.{front}
use Rattle.log_lines.proofs.Entries.{no-form, change-by}
use Rattle.log_lines.proofs.entry.change_entry.Goals as goal

pub returns-in_default : goal.returns-in_default
returns-in_default c = no-form c.args.bank c.args.element
    c.args.value.now (sym c.in_default.is ∙ c.pattern_of.ensures)

pub returns-then-same_bytes : goal.returns-then-same_bytes
returns-then-same_bytes c = change-by c.args.bank
    c.args.element
    c.args.value.now true
    (sym c.in-Some.is
    ∙ c.pattern_of.ensures)
    (front c.put_value-end.ensures.puts (omega (arith, c.put_value-end.ensures.upper_bound)))
    (sym c.if-same_bytes.true ∙ c.same_bytes.ensures)

pub returns : goal.returns
returns c = change-by c.args.bank
    c.args.element
    c.args.value.now false
    (sym c.in-Some.is
    ∙ c.pattern_of.ensures)
    (front c.put_value-end.ensures.puts (omega (arith, c.put_value-end.ensures.upper_bound)))
    (sym c.if-same_bytes.false ∙ c.same_bytes.ensures)
