-- `memory::names::bank_of` meets its contract: six letters, and any other byte is no bank's.
use Rattle.std.proofs.Common.{rules}
use borrow.Author.Tests.{tests}
use Rattle.memory.specs.Names.{letter_bank}
use Rattle.memory.proofs.names.bank_of.Goals as goal

pub returns-in-88 : goal.returns-in-88
unfolding letter_bank
returns-in-88 c = rw c.in-88.is

pub returns-in-67 : goal.returns-in-67
unfolding letter_bank
returns-in-67 c = rw c.in-67.is

pub returns-in-86 : goal.returns-in-86
unfolding letter_bank
returns-in-86 c = rw c.in-86.is

pub returns-in-78 : goal.returns-in-78
unfolding letter_bank
returns-in-78 c = rw c.in-78.is

pub returns-in-68 : goal.returns-in-68
unfolding letter_bank
returns-in-68 c = rw c.in-68.is

pub returns-in-82 : goal.returns-in-82
unfolding letter_bank
returns-in-82 c = rw c.in-82.is

pub returns-in_default : goal.returns-in_default
unfolding letter_bank
returns-in_default c = search (tests, rules)
