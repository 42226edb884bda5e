-- `functions::operator` meets its contract: the families, and nothing beyond them.
use mathlib.Core.Path.{sym}
use native.Mathlib.Omega.{arith}
use Rattle.grammar.proofs.functions.Totals.{a-match, past-operator}
use Rattle.grammar.proofs.functions.operator.Goals as goal

pub returns-in-15-to-26 : goal.returns-in-15-to-26
returns-in-15-to-26 c = sym (a-match c.args.f (omega arith) (omega arith)).operator

pub returns-in_default : goal.returns-in_default
returns-in_default c = sym (past-operator c.args.f (omega arith))
