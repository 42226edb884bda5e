-- `put` meets its contract: no row of the table is longer than 47 bytes.
use Rattle.text_tables.proofs.Short.{row-length}
use Rattle.answer_words.specs.Words.{answer_table, most_words}
use native.Mathlib.Omega.{arith}
use Rattle.answer_words.proofs.put.Goals as goal

pub put_row-requires : goal.put_row-requires
put_row-requires c = omega (arith, c.requires, row-length most_words c.args.answer answer_table tt)

pub returns-clause-upper_bound : goal.returns-clause-upper_bound
returns-clause-upper_bound c = omega (arith, c.put_row.ensures.end, row-length most_words c.args.answer answer_table tt)
