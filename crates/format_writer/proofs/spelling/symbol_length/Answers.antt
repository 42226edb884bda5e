-- `spelling::symbol_length` meets its contract: the sizes are those of the table of symbols.
use Rattle.format_writer.proofs.spelling.Ends.{size_of}
use Rattle.format_writer.proofs.spelling.symbol_length.Goals as goal

pub returns : goal.returns
returns c = size_of c.args.n
