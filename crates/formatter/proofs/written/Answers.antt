-- `written` meets its contract.
use native.Mathlib.Omega.{arith}
use Rattle.formatter.proofs.Whole.{accepted-short}
use Rattle.formatter.proofs.written.Goals as goal

pub write_within-requires-2 : goal.write_within-requires-2
write_within-requires-2 c = record { accepted = c.requires; text_len_bound = (omega (arith, accepted-short c.requires), omega arith) }
