-- `memory::bytes::get` meets its contract: N bytes, and zeros behind them, are the four of a word.
use mathlib.Core.Path.{◌∙◌}
use Rattle.memory.proofs.FourBytes.{read, bounded}
use Rattle.memory.proofs.bytes.get.Goals as goal

pub returns-clause-value : goal.returns-clause-value
returns-clause-value g c = c.from_le_bytes.ensures ∙ read _ _ _ c.requires.0 c.requires.1 _ c.copy_from_slice.ensures.after

pub returns-clause-bound : goal.returns-clause-bound
returns-clause-bound g c =
    bounded _ _ _ c.requires.0 c.requires.1 (λ k. (c.type_inv.image k).fits)
    (c.from_le_bytes.ensures ∙ read _ _ _ c.requires.0 c.requires.1 _ c.copy_from_slice.ensures.after)
