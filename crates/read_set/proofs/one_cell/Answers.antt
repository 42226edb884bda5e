-- `one_cell` meets its contract: the bank of the number, or none.
use Rattle.memory.specs.Numbers.{bank_numbered}
use Rattle.code.specs.Instructions.{load_element, word_of}
use Rattle.read_set.proofs.Classes.{found, cell-known, bank-none}
use Rattle.read_set.proofs.one_cell.Goals as goal

pub returns-in-Some : goal.returns-in-Some
returns-in-Some c =
    cell-known _ (word_of c.args.w)
    (found bank_numbered c.number_of.ensures c.bank_numbered.ensures c.in-Some.is) c.word_of.ensures
    c.stretch.ensures

pub returns-in-None : goal.returns-in-None
returns-in-None c =
    bank-none load_element (word_of c.args.w)
    (found bank_numbered c.number_of.ensures c.bank_numbered.ensures c.in-None.is) c.nothing.ensures
