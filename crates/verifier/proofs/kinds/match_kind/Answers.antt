-- `verifier::kinds::match_kind` meets its contract: the operator's kind over the bank, where the range lies within it.
use Rattle.verifier.proofs.kinds.Classes.{compares, no-match}
use Rattle.verifier.proofs.kinds.match_kind.Goals as goal

pub returns-then-in_bank : goal.returns-then-in_bank
returns-then-in_bank c = compares _ c.in_bank.ensures c.if-in_bank.true
    c.number_of.ensures c.word_of.ensures c.range_bank.ensures c.match_kind.ensures

pub returns-else-in_bank : goal.returns-else-in_bank
returns-else-in_bank c = no-match c.args.w c.in_bank.ensures c.if-in_bank.false
