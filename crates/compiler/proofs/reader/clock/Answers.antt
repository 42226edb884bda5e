-- `compiler::reader::clock` meets its contract.
use native.Mathlib.Omega.{arith}
use Rattle.compiler.proofs.reader.Steps.{being}
use Rattle.compiler.proofs.reader.Calls.{clock-done, clock-other}
use mathlib.Core.Path.{sym, ◌∙◌}
use Rattle.compiler.proofs.reader.clock.Goals as goal

pub ticked-requires : goal.ticked-requires
ticked-requires c = (omega (arith, c.requires.within, c.requires.small), omega (arith, c.requires.room, c.requires.small, c.requires.within))

pub returns-then-expected : goal.returns-then-expected
returns-then-expected c =
    being c.ticked.ensures.result_value (clock-done c.requires.tokens (sym c.expected.ensures ∙ c.if-expected.true) c.ticked.ensures.draft_after)

pub bad-requires : goal.bad-requires
bad-requires c = omega (arith, c.requires.within, c.requires.small)

pub returns : goal.returns
returns c = being c.bad.ensures (clock-other c.requires.tokens c.requires.within (sym c.expected.ensures ∙ c.if-expected.false))
