-- `total` meets its contract: the range of a total, or none.
use Rattle.totals.specs.Numbers.{total_of}
use Rattle.code.specs.Instructions.{word_of}
use Rattle.read_set.proofs.Classes.{found, total-known, total-none}
use Rattle.read_set.proofs.total.Goals as goal

pub returns-in-Some : goal.returns-in-Some
returns-in-Some c =
    total-known _ (word_of c.args.w)
    (found total_of c.number_of.ensures c.total_of.ensures c.in-Some.is) c.word_of.ensures c.range.ensures

pub returns-in-None : goal.returns-in-None
returns-in-None c =
    total-none (word_of c.args.w)
    (found total_of c.number_of.ensures c.total_of.ensures c.in-None.is) c.nothing.ensures
