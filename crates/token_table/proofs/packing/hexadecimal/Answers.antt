-- `packing::hexadecimal` meets its contract: a pattern is its own, read with its sign.
use Rattle.values.proofs.patterns.Readings.{low_signed}
use borrow.Author.Rules.{rules}
use Rattle.token_table.proofs.packing.hexadecimal.Goals as goal

pub returns-in-Ok : goal.returns-in-Ok
returns-in-Ok c = rw (c.in-Ok.is, low_signed 32 c.in-Ok.bits (search rules)) c.word.ensures
