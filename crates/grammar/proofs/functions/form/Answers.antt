-- `functions::form` meets its contract: the families, and nothing beyond them.
use mathlib.Core.Path.{sym}
use native.Mathlib.Omega.{arith}
use Rattle.grammar.proofs.functions.Totals.{a-match, past-form}
use Rattle.grammar.proofs.functions.form.Goals as goal

pub returns-in-15-to-26 : goal.returns-in-15-to-26
returns-in-15-to-26 c = sym (a-match c.args.f (omega arith) (omega arith)).form

pub returns-in_default : goal.returns-in_default
returns-in_default c = sym (past-form c.args.f (omega arith))
