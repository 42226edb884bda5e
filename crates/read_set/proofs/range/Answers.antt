-- `range` meets its contract: the range of the bank of the number, or none.
use Rattle.memory.specs.Numbers.{bank_numbered}
use Rattle.read_set.proofs.Classes.{found, range-known, range_none}
use Rattle.read_set.proofs.range.Goals as goal

pub returns-in-Some : goal.returns-in-Some
returns-in-Some c =
    range-known c.args.word
    (found bank_numbered c.range_bank.ensures c.bank_numbered.ensures c.in-Some.is)
    c.range_first.ensures c.range_count.ensures
    c.stretch.ensures

pub returns-in-None : goal.returns-in-None
returns-in-None c =
    range_none c.args.word
    (found bank_numbered c.range_bank.ensures c.bank_numbered.ensures c.in-None.is) c.nothing.ensures
