-- `numerals::hex_pattern` meets its contract: eight digits make a number below 2 ^ 32.
use mathlib.Core.Path.{sym, ◌∙◌}
use native.Mathlib.Omega.{arith}
use lib.Dec.{lit<}
use Rattle.tokens.specs.Bytes.{is_hex}
use Rattle.tokens.proofs.Tests.{hex-small}
use Rattle.tokens.proofs.Runs.{all-list, some-byte}
use Rattle.tokens.proofs.Readings.{hexes, below}
use Rattle.tokens.proofs.numerals.hex_pattern.Goals as goal

pub hex_value-requires : goal.hex_value-requires
hex_value-requires c =
    let s = c.args.run.now in
    let e = sym (all-list is_hex s) ∙ sym c.all_hex.ensures ∙ c.if-not-all_hex.false in
    (some-byte is_hex s (sym c.is_empty.ensures ∙ c.if-is_empty.false) e, below hexes hex-small 8 s (lit< tt) e (omega arith))
