-- `values::patterns::bitwise` meets its contract: the machine's operation on the bits is the rule's on their digits.
use Rattle.values.specs.declared.BitOp.TheVariants.{And, Or, Xor}
use Rattle.values.proofs.patterns.Operators.{bitwise-read}
use Rattle.values.proofs.patterns.bitwise.Goals as goal

pub returns-in-And : goal.returns-in-And
returns-in-And c = rw c.in-And.is (bitwise-read And _ _ c.ranges.a c.ranges.b)

pub returns-in-Or : goal.returns-in-Or
returns-in-Or c = rw c.in-Or.is (bitwise-read Or _ _ c.ranges.a c.ranges.b)

pub returns-in-Xor : goal.returns-in-Xor
returns-in-Xor c = rw c.in-Xor.is (bitwise-read Xor _ _ c.ranges.a c.ranges.b)
