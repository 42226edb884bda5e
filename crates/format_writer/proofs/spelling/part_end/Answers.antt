-- `spelling::part_end` meets its contract.
use native.Mathlib.Omega.{arith}
use borrow.Author.Rules.{rules}
use Rattle.format_writer.proofs.spelling.Ends.{part_none, part-empty, part-some, part-inside}
use Rattle.format_writer.proofs.spelling.part_end.Goals as goal

pub returns-then-byte_at-ne46 : goal.returns-then-byte_at-ne46
returns-then-byte_at-ne46 c =
    (omega arith, c.requires, part_none c.args.text.now c.args.at c.byte_at.ensures c.if-byte_at-ne46.true)

pub digits-d-requires : goal.digits-d-requires
digits-d-requires c =
    (omega (arith, part-inside c.args.text.now c.args.at c.byte_at.ensures c.if-byte_at-ne46.false), search rules)

pub returns-then-d-at : goal.returns-then-d-at
returns-then-d-at c = (omega arith, c.requires, part-empty c.args.text.now c.args.at c.digits-d.ensures.end_value.0 c.if-d-at.true)

pub returns : goal.returns
returns c =
    let d = c.digits-d.ensures.end_value in
    (omega (arith, d.0), d.1, part-some c.args.text.now c.args.at d.0 c.byte_at.ensures c.if-byte_at-ne46.false c.if-d-at.false)
