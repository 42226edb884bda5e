-- `code::range_class` meets its contract: its tests are those of `range_class`.
use borrow.Author.Tests.{lt-ltb, le-ltb}
use Rattle.code.specs.Instructions.{MATCH}
use Rattle.code.proofs.range_class.Goals as goal

pub returns-then-opcode-lt-MATCH : goal.returns-then-opcode-lt-MATCH
returns-then-opcode-lt-MATCH c = rw (lt-ltb _ MATCH c.if-opcode-lt-MATCH.true)

pub returns-then-opcode : goal.returns-then-opcode
returns-then-opcode c = rw (le-ltb _ MATCH c.if-opcode-lt-MATCH.false, lt-ltb _ _ c.if-opcode.true)

pub returns-else-opcode : goal.returns-else-opcode
returns-else-opcode c = rw (le-ltb _ MATCH c.if-opcode-lt-MATCH.false, le-ltb _ _ c.if-opcode.false)
