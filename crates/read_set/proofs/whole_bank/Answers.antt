-- `whole_bank` meets its contract: the bank of the number, or none, where the word is 0.
use mathlib.Core.Path.{ap}
use Rattle.memory.specs.Numbers.{bank_numbered}
use Rattle.memory.specs.declared.Layout.{Layout}
use Rattle.code.specs.Instructions.{load_indexed, word_of}
use Rattle.code.specs.private.Classes.{number_of}
use Rattle.read_set.proofs.Classes.{found, bank-known, bank-unknown, bank-none}
use Rattle.read_set.proofs.whole_bank.Goals as goal

pub returns-then-word_of-ne0 : goal.returns-then-word_of-ne0
returns-then-word_of-ne0 c =
    bank-unknown (bank_numbered (number_of c.args.w)) _ (word_of c.args.w)
    c.word_of.ensures c.if-word_of-ne0.true c.nothing.ensures

pub returns-in-Some : goal.returns-in-Some
returns-in-Some c =
    bank-known _ (word_of c.args.w) _
    c.word_of.ensures
    c.if-word_of-ne0.false (ap (λ (l : Layout). l.elements) c.layout_of.ensures)
    (found bank_numbered c.number_of.ensures c.bank_numbered.ensures c.in-Some.is) c.stretch.ensures

pub returns-in-None : goal.returns-in-None
returns-in-None c =
    bank-none load_indexed (word_of c.args.w)
    (found bank_numbered c.number_of.ensures c.bank_numbered.ensures c.in-None.is) c.nothing-in-None.ensures
