-- `numerals::hex_value` meets its contract: the digits passed make n of the whole number, which n never exceeds.
use mathlib.Core.Path.{refl}
use native.Mathlib.Omega.{arith}
use Rattle.tokens.specs.Bytes.{is_hex}
use Rattle.tokens.proofs.Runs.{all-at}
use Rattle.tokens.proofs.Readings.{hexes, from, more, at_most, end}
use Rattle.tokens.proofs.numerals.hex_value.Goals as goal

pub loop-b-init : goal.loop-b-init
loop-b-init c = from hexes 0 _

pub overflow_mul-n : goal.overflow_mul-n
overflow_mul-n c = omega (arith, at_most hexes (more hexes c.loop-b.invariant refl c.loop-b-test.true))

pub hex_digit-requires : goal.hex_digit-requires
hex_digit-requires c = all-at is_hex c.args.run.now _ c.requires.0
    c.loop-b-test.true

pub overflow_add-n : goal.overflow_add-n
overflow_add-n c = omega (arith, at_most hexes (more hexes c.loop-b.invariant c.hex_digit.ensures c.loop-b-test.true))

pub loop-b-preserved : goal.loop-b-preserved
loop-b-preserved c = more hexes c.loop-b.invariant c.hex_digit.ensures c.loop-b-test.true

pub returns : goal.returns
returns c = end hexes c.loop-b.invariant c.loop-b-test.false
