-- `is_real` meets its contract.
use mathlib.Core.Path.{sym}
use native.Mathlib.Omega.{arith}
use borrow.Author.Tests.{ne_eqb}
use Rattle.real_tokens.proofs.is_real.Goals as goal

pub returns-in-2 : goal.returns-in-2
returns-in-2 c = rw (sym c.class_of.ensures, c.in-2.is)

pub returns-in-5 : goal.returns-in-5
returns-in-5 c = rw (
  c.is_real_function.ensures,
  c.operand_of-operand.ensures,
  sym c.class_of.ensures,
  c.in-5.is,
)

pub returns-in_default : goal.returns-in_default
returns-in_default c = rw (
  sym c.class_of.ensures,
  ne_eqb c.class_of.result 2 (λ e. omega arith),
  ne_eqb c.class_of.result 3 (λ e. omega arith),
  ne_eqb c.class_of.result 4 (λ e. omega arith),
  ne_eqb c.class_of.result 5 (λ e. omega arith),
)
