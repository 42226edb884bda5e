-- `draft::ranges::range_wrong` meets its contract.
use Rattle.draft.proofs.ranges.Spans.{good-is}
use Rattle.draft.proofs.ranges.range_wrong.Goals as goal

pub returns : goal.returns
returns c =
    let g = good-is c.args.first c.args.count c.requires c.operand_of.ensures
    c.bank_elements-elements.ensures c.number_of-element.ensures c.number_of.ensures c.is_within-good.ensures in
    record { result_value = cc g; upper_bound = c.wrong_count.ensures.upper_bound }
