-- `verifier::within` meets its contract: the tables are blank, and have a place for each instruction and the end.
use native.Mathlib.Omega.{arith}
use Rattle.verifier.proofs.Checking.{blank}
use Rattle.verifier.proofs.within.Goals as goal

pub checked-requires : goal.checked-requires
checked-requires g c = record {
  some = (omega (arith, c.requires), omega (arith, c.requires));
  blank = rw c.zero-bits.ensures (blank g.row.N _ (omega (arith, c.requires)));
}
