-- `put_indexed` meets its contract.
use Rattle.code_listing.proofs.Lines.{letter-known}
use Rattle.lines.proofs.Stores.{then, as-text}
use native.Mathlib.Omega.{arith}
use Rattle.text_tables.proofs.Short.{row-length}
use Rattle.words.specs.Ascii.{ascii}
use Rattle.code_listing.proofs.put_indexed.Goals as goal

pub put_row-requires : goal.put_row-requires
put_row-requires c = omega (arith, row-length 1 c.from.result (ascii "X\nC\nV\nN\nD\nR") tt)

pub returns-in-Some-clause-puts : goal.returns-in-Some-clause-puts
returns-in-Some-clause-puts c =
    as-text (letter-known c.args.w c.number_of.ensures c.bank_numbered.ensures c.in-Some.is c.from.ensures)
    (then c.put_all-next.ensures c.put_row.ensures)

pub returns-in-Some-clause-upper_bound : goal.returns-in-Some-clause-upper_bound
returns-in-Some-clause-upper_bound c = omega (
  arith,
  c.put_row.ensures.end,
  c.put_all-next.ensures.end,
  row-length 1 c.from.result (ascii "X\nC\nV\nN\nD\nR") tt,
)
