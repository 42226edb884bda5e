-- `totals::tally::reading` meets its contract: an arm for each step.
use native.Mathlib.Omega.{arith}
use mir.Syntax.{w32}
use mir.ValLaws.{to_z_pos}
use Rattle.totals.proofs.tally.reading.Goals as goal

pub returns-in-Add : goal.returns-in-Add
returns-in-Add c = rw c.in-Add.is

pub returns-in-Average : goal.returns-in-Average
returns-in-Average c = rw c.in-Average.is c.mean.ensures

pub returns-in-Max : goal.returns-in-Max
returns-in-Max c = rw (c.in-Choose.is, c.in-Max.is)

pub returns-in-Min : goal.returns-in-Min
returns-in-Min c = rw (c.in-Choose.is, c.in-Min.is)

pub returns-in-CountIf : goal.returns-in-CountIf
returns-in-CountIf c = rw (c.in-CountIf.is, to_z_pos w32 c.args.t.count (omega arith))

pub returns-in-AddIf : goal.returns-in-AddIf
returns-in-AddIf c = rw c.in-AddIf.is
