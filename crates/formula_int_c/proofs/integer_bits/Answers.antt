-- `formula_int_c::integer_bits` meets its contract: no real is given.
use mathlib.Core.Path.{ap}
use mir.Syntax.{w32}
use mir.ValLaws.{to_z-of_z}
use borrow.Author.Rules.{rules}
use Rattle.operators.specs.Reals.{real_value}
use Rattle.formula_int_c.proofs.Answers.{no-real}
use Rattle.formula_int_c.proofs.integer_bits.Goals as goal

pub returns-in-Int : goal.returns-in-Int
returns-in-Int c = rw (c.pattern.ensures, to_z-of_z w32 c.in-Int.z (search rules), c.in-Int.is)

pub returns-in-Real : goal.returns-in-Real
returns-in-Real c = no-real c.args.v (ap real_value c.in-Real.is) c.requires
