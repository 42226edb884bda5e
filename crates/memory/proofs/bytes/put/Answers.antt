-- `memory::bytes::put` meets its contract: the N lowest of a word's four bytes.
use Rattle.memory.proofs.FourBytes.{written}
use Rattle.memory.proofs.bytes.put.Goals as goal

pub returns : goal.returns
returns g c = written _ _ _ _ c.requires.0 c.requires.1 c.to_le_bytes-word.ensures c.copy_from_slice.ensures.after
