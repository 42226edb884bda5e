-- `totals::tally::Tally::begin` meets its contract.
use mathlib.Core.Path.{refl}
use lib.Ieee.{of_bits}
use lib.Ieee.{of_bits}
use Rattle.totals.proofs.tally.Tally.begin.Goals as goal

pub returns : goal.returns
unfolding of_bits
returns c = refl
