-- `put_index` meets its contract: nothing where there is no index.
use native.Mathlib.Omega.{arith}
use Rattle.words.specs.Ascii.{ascii}
use Rattle.lines.proofs.Stores.{then, as-text}
use Rattle.text_tables.proofs.Short.{row-length}
use Rattle.listing_reply.proofs.Parts.{none-put, no_index, with-index}
use Rattle.listing_reply.proofs.put_index.Goals as goal

pub returns-then-k-eq0 : goal.returns-then-k-eq0
returns-then-k-eq0 c =
    record { puts = as-text (no_index c.args.index.now c.args.bank c.if-k-eq0.true) (none-put _ _); upper_bound = omega arith }

pub put_row-b-requires : goal.put_row-b-requires
put_row-b-requires c = omega (arith, c.put_all-a.ensures.end, row-length 1 c.from.result (ascii "X\nC\nV\nN\nD\nR") tt)

pub put_all-c-requires : goal.put_all-c-requires
put_all-c-requires c =
    omega (arith, c.put_all-a.ensures.end, c.put_row-b.ensures.end, row-length 1 c.from.result (ascii "X\nC\nV\nN\nD\nR") tt)

pub put_code-requires : goal.put_code-requires
put_code-requires c =
    omega (
      arith,
      c.put_all-a.ensures.end,
      c.put_row-b.ensures.end,
      c.put_all-c.ensures.end,
      row-length 1 c.from.result (ascii "X\nC\nV\nN\nD\nR") tt,
    )

pub returns : goal.returns
returns c =
    record {
      puts = as-text (with-index c.args.index.now c.args.bank c.if-k-eq0.false c.from.ensures)
          (then (then (then c.put_all-a.ensures c.put_row-b.ensures) c.put_all-c.ensures) c.put_code.ensures.puts);
      upper_bound = omega (
        arith,
        c.put_code.ensures.upper_bound,
        c.put_all-a.ensures.end,
        c.put_row-b.ensures.end,
        c.put_all-c.ensures.end,
        row-length 1 c.from.result (ascii "X\nC\nV\nN\nD\nR") tt,
      );
    }
