-- `named_buffer` has its length: counted by a law, since there are too many zeros to write out.
use lib.ListN.{length-replicate}
use mathlib.Core.Path.{sym}
use Prim.Native.Nat.{ℕ}
use Rattle.salvage.proofs.named_buffer.Goals as goal

pub returns : goal.returns
returns c = sym (length-replicate {0} {A = ℕ} 1572928 0)
