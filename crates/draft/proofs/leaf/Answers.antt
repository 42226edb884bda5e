-- `draft::leaf` meets its contract: the class tells opcode and kind.
use borrow.Author.Tests.{eq-eqb, ne_eqb}
use Rattle.token_table.specs.private.Table.{word_operand}
use Rattle.draft.proofs.Typed.{bank-kind}
use Rattle.draft.proofs.leaf.Goals as goal

pub returns-then-class-eq-INTEGER : goal.returns-then-class-eq-INTEGER
returns-then-class-eq-INTEGER c = rw (← c.class_of-class.ensures, eq-eqb _ 1 c.if-class-eq-INTEGER.true) c.pushed.ensures

pub returns-then-class-eq-REAL : goal.returns-then-class-eq-REAL
returns-then-class-eq-REAL c = rw (
  ← c.class_of-class.ensures,
  ne_eqb _ 1 c.if-class-eq-INTEGER.false,
  eq-eqb _ 2 c.if-class-eq-REAL.true,
) c.pushed-then-class-eq-REAL.ensures

pub pushed-requires-2 : goal.pushed-requires-2
pushed-requires-2 c =
    let k = bank-kind (word_operand c.args.w) c.requires.0 c.operand_of-bank.ensures c.bank_kind.ensures in
    (c.requires.1, c.requires.2, k.1)

pub returns : goal.returns
returns c =
    let k = bank-kind (word_operand c.args.w) c.requires.0 c.operand_of-bank.ensures c.bank_kind.ensures in
    rw (
      ← c.class_of-class.ensures,
      ne_eqb _ 1 c.if-class-eq-INTEGER.false,
      ne_eqb _ 2 c.if-class-eq-REAL.false,
      ← k.0,
      ← c.operand_of-bank.ensures,
    ) c.pushed-2.ensures
