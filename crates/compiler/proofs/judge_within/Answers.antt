-- `compiler::judge_within` meets its contract: the table has a word for each byte and one more.
use lib.ListN.{length-replicate}
use Rattle.token_table.proofs.Laws.{no-tokens}
use Rattle.compiler.proofs.judge_within.Goals as goal

pub read-requires : goal.read-requires
read-requires g c = record { sized = simp length-replicate c.requires; token_words = no-tokens g.row.N }

pub returns : goal.returns
returns g c = c.read.ensures.answer
