-- `c_report::fill` meets its contract: word by word.
use Rattle.c_report.proofs.fill.Goals as goal

pub returns : goal.returns
returns c = rw (c.kind_number.ensures, c.from-number.ensures, c.low-count.ensures, c.low-place.ensures)
