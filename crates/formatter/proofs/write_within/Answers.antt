-- `write_within` meets its contract: the table has a word for each byte and one more.
use lib.ListN.{length-replicate}
use Rattle.token_table.proofs.Laws.{no-tokens}
use Rattle.formatter.proofs.Whole.{accepted-short}
use Rattle.formatter.proofs.write_within.Goals as goal

pub write-requires : goal.write-requires
write-requires g c = record {
  text_len_bound = (accepted-short c.requires.accepted, simp length-replicate c.requires.text_len_bound.0, no-tokens g.row.N);
  accepted = c.requires.accepted;
}
