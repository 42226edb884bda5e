-- `remainder::quiet_nan` meets its contract: the library's division of zeros computes.
use mathlib.Core.Path.{refl}
use lib.Ieee.{div, of_bits, of_fields, odd}
use Rattle.remainder.proofs.quiet_nan.Goals as goal

pub returns : goal.returns
unfolding div of_bits of_fields odd
returns c = refl
