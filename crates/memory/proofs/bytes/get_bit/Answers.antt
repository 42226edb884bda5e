-- `memory::bytes::get_bit` meets its contract.
use native.Mathlib.Omega.{arith}
use lib.ListN.{get_or}
use Rattle.words.proofs.Digits.{digit-laws}
use Rattle.memory.proofs.bytes.get_bit.Goals as goal

pub returns : goal.returns
returns c =
    let a = c.args in
    (c.bit.ensures, omega (arith, c.bit.ensures, digit-laws.below (get_or a.image.now a.at 0) a.k))
