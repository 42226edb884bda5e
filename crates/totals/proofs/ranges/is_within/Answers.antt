-- `totals::ranges::is_within` meets its contract: no cell, a first cell past the bank, or a count against the elements left.
use Rattle.totals.proofs.Within.{none, past, within}
use Rattle.totals.proofs.ranges.is_within.Goals as goal

pub returns-then-count-lt1 : goal.returns-then-count-lt1
returns-then-count-lt1 c = none c.args.elements c.args.first c.args.count c.if-count-lt1.true

pub returns-then-elements-first : goal.returns-then-elements-first
returns-then-elements-first c = past c.args.elements c.args.first c.args.count c.if-count-lt1.false c.if-elements-first.true

pub returns : goal.returns
returns c = within c.args.elements c.args.first c.args.count c.if-count-lt1.false c.if-elements-first.false
