-- `words::bit` meets its contract: a byte, shifted by the bit's place, has the bit lowest.
use Rattle.words.proofs.Bits.{weighed}
use Rattle.words.proofs.bit.Goals as goal

pub returns : goal.returns
returns c = (weighed _ _ c.ranges.byte.fits c.requires).read
