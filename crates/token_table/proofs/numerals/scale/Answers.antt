-- `numerals::scale` meets its contract: no step leaves 32 bits.
use Rattle.token_table.proofs.numerals.Scales.{negated_fits, negative_fits, negative-is, positive-fits, positive-is}
use Rattle.token_table.proofs.numerals.scale.Goals as goal

pub overflow_sub-result : goal.overflow_sub-result
overflow_sub-result c = negated_fits c.args.exponent c.requires.0

pub overflow_sub-result-then-negative : goal.overflow_sub-result-then-negative
overflow_sub-result-then-negative c = negative_fits c.args.exponent c.requires.0 c.args.places c.requires.1

pub returns-then-negative : goal.returns-then-negative
returns-then-negative c = rw c.if-negative.true (negative-is c.args.exponent c.requires.0 c.args.places c.requires.1)

pub overflow_sub-result-2 : goal.overflow_sub-result-2
overflow_sub-result-2 c = positive-fits c.args.exponent c.requires.0 c.args.places c.requires.1

pub returns : goal.returns
returns c = rw c.if-negative.false (positive-is c.args.exponent c.requires.0 c.args.places c.requires.1)
