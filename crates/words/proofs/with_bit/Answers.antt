-- `words::with_bit` meets its contract: the byte without the bit's weight, and with it again where the bit is on.
use Rattle.words.proofs.Bits.{weighed}
use Rattle.words.proofs.with_bit.Goals as goal

pub returns-then-on : goal.returns-then-on
returns-then-on c = rw c.if-on.true (weighed _ _ c.ranges.byte.fits c.requires).on

pub returns-else-on : goal.returns-else-on
returns-else-on c = rw c.if-on.false (weighed _ _ c.ranges.byte.fits c.requires).off
