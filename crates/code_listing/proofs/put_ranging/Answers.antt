-- `put_ranging` meets its contract.
use Rattle.code_listing.proofs.Lines.{ranging-is}
use Rattle.lines.proofs.Stores.{then, as-text}
use Rattle.code_listing.proofs.put_ranging.Goals as goal

pub returns-clause-puts : goal.returns-clause-puts
returns-clause-puts c =
    as-text (ranging-is c.args.table.now c.args.w c.number_of.ensures c.word_of.ensures) (then c.put_row-next.ensures c.put_range.ensures.puts)
