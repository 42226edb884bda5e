-- `draft::ranges::range_word` meets its contract.
use native.Mathlib.Omega.{arith}
use Rattle.draft.proofs.ranges.Spans.{small, span-is}
use Rattle.draft.proofs.ranges.range_word.Goals as goal

pub range_word-requires : goal.range_word-requires
range_word-requires c =
    let h = small c.args.first c.args.count c.requires in
    let e = span-is c.args.first c.args.count c.requires c.operand_of-bank.ensures
    c.bank_elements-elements.ensures c.number_of-element.ensures c.number_of.ensures c.span_of-span.ensures in (
      omega (arith, c.requires.few, c.operand_of-bank.ensures),
      omega (arith, h.0, c.number_of-element.ensures),
      omega (arith, h.1),
    )

pub returns : goal.returns
returns c =
    cc (
      span-is c.args.first c.args.count c.requires c.operand_of-bank.ensures
          c.bank_elements-elements.ensures c.number_of-element.ensures c.number_of.ensures c.span_of-span.ensures,
      c.range_word.ensures,
      c.operand_of-bank.ensures,
      c.number_of-element.ensures,
    )
