-- `push_real` meets its contract: without reals stuck; else the test is that of `push_real`.
use mathlib.Core.Path.{◌≡◌, sym, ◌∙◌}
use mathlib.Core.Bool.{false}
use lib.Ieee.{binary32, of_bits}
use lib.Ieee.Scale.{finite}
use Rattle.values.proofs.patterns.Exponents.{no_nan}
use Rattle.code.specs.Instructions.{word_of}
use Rattle.machine.proofs.Performs.{special-made}
use Rattle.machine.proofs.push_real.Goals as goal

pub float_from_bits-word : goal.float_from_bits-word
float_from_bits-word c = no_nan c.word_of-word.result (sym c.is_finite_single.ensures ∙ c.if-is_finite_single.true)

pub returns : goal.returns
returns c = λ E l r.
    let a = c.args in
    let word = c.word_of-word.result in
    let special : finite (of_bits binary32 word) ≡ false = sym c.is_finite_single.ensures ∙ c.if-is_finite_single.false in
    c.stuck_step-2.ensures
    ∙ special-made a.reals E a.h l r (word_of a.w) (rw c.word_of-word.ensures at special)
