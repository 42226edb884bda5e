-- `formula_c::bits_of` meets its contract.
use mir.Syntax.{w32}
use mir.ValLaws.{to_z-of_z}
use borrow.Author.Rules.{rules}
use Rattle.formula_c.proofs.bits_of.Goals as goal

pub returns-in-Int : goal.returns-in-Int
returns-in-Int c = rw (c.pattern.ensures, to_z-of_z w32 c.in-Int.z (search rules), c.in-Int.is)

pub returns-in-Real : goal.returns-in-Real
returns-in-Real c = rw (c.pattern_of.ensures, c.in-Real.is)
