-- `verifier::kinds::total_kind` meets its contract: the operator's kind over the bank, where the range lies within it.
use Rattle.verifier.proofs.kinds.Classes.{adds-up, no-total}
use Rattle.verifier.proofs.kinds.total_kind.Goals as goal

pub returns-then-in_bank : goal.returns-then-in_bank
returns-then-in_bank c = adds-up _ c.in_bank.ensures c.if-in_bank.true
    c.number_of.ensures c.word_of.ensures c.range_bank.ensures c.total_kind.ensures

pub returns-else-in_bank : goal.returns-else-in_bank
returns-else-in_bank c = no-total c.args.w c.in_bank.ensures c.if-in_bank.false
