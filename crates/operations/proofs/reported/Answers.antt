-- `reported` meets its contract, answer by answer.
use mathlib.Core.Path.{ap, sym, refl}
use Rattle.operations.specs.Operations.{report_of}
use Rattle.operations.proofs.reported.Goals as goal

pub returns-in-Done : goal.returns-in-Done
returns-in-Done c = sym (ap report_of c.in-Done.is)

pub returns-in-Fault : goal.returns-in-Fault
returns-in-Fault c = rw (c.in-Fault.is, c.from.ensures) refl

pub returns-in-Refused : goal.returns-in-Refused
returns-in-Refused c = sym (ap report_of c.in-Refused.is)
