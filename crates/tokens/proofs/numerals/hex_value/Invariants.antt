-- `numerals::hex_value` meets its contract: the digits passed make n of the whole number, which n never exceeds.
use Rattle.tokens.specs.Numerals.{hex_from}
use Rattle.tokens.proofs.Readings.{Makes}
use Rattle.tokens.proofs.numerals.hex_value.Given as goal

abbrev pub invariant-loop-b : goal.invariant-loop-b
invariant-loop-b l = Makes hex_from l.run (hex_from 0 l.run) l.b-index l.n
