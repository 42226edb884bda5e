-- `matching` meets its contract: the range of a match, or none.
use Rattle.totals.specs.Numbers.{match_of}
use Rattle.code.specs.Instructions.{word_of}
use Rattle.read_set.proofs.Classes.{found, match-known, match_none}
use Rattle.read_set.proofs.matching.Goals as goal

pub returns-in-Some : goal.returns-in-Some
returns-in-Some c =
    match-known _ (word_of c.args.w)
    (found match_of c.number_of.ensures c.match_of.ensures c.in-Some.is) c.word_of.ensures c.range.ensures

pub returns-in-None : goal.returns-in-None
returns-in-None c =
    match_none (word_of c.args.w)
    (found match_of c.number_of.ensures c.match_of.ensures c.in-None.is) c.nothing.ensures
