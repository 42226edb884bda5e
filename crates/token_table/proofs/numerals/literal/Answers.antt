-- `numerals::literal` meets its contract.
use mathlib.Core.Path.{ap, ◌∙◌}
use native.Mathlib.Omega.{arith}
use lib.IntN.{ℤ}
use mir.Syntax.{w32}
use mir.Val.{to_z, of_z}
use Rattle.literals.specs.Literals.{literal_pattern}
use Rattle.token_table.proofs.numerals.Scales.{ten-digits, large-exponent, literal-word, read-scale}
use Rattle.token_table.proofs.numerals.literal.Goals as goal

pub returns-then-m-gt-DIGITS : goal.returns-then-m-gt-DIGITS
returns-then-m-gt-DIGITS c = c.word.ensures ∙ ten-digits c.args.m.value c.args.m.digits
    c.args.m.places c.args.negative c.args.exponent c.if-m-gt-DIGITS.true

pub returns-then-exponent-gt-EXPONENT : goal.returns-then-exponent-gt-EXPONENT
returns-then-exponent-gt-EXPONENT c = c.word-then-exponent-gt-EXPONENT.ensures ∙ large-exponent c.args.m.value c.args.m.digits
    c.args.m.places c.args.negative
    c.args.exponent c.if-exponent-gt-EXPONENT.true

pub overflow_cast-m-2 : goal.overflow_cast-m-2
overflow_cast-m-2 c = record { fits = c.requires.0 (omega (arith, c.if-m-gt-DIGITS.false)) }

pub returns : goal.returns
returns c =
    let v = c.args.m.value in
    let scaled = ap (λ (z : ℤ). literal_pattern v (to_z w32 (of_z w32 z))) c.scale-scale.ensures in
    let read = read-scale c.args.exponent
    (omega (arith, c.if-exponent-gt-EXPONENT.false))
    c.args.m.places
    (omega (
      arith,
      c.if-m-gt-DIGITS.false,
      c.requires.1,
    ))
    c.args.negative in
    c.word-2.ensures
    ∙ literal-word c.args.m.value
    c.args.m.digits
    c.args.m.places
    c.args.negative
    c.args.exponent
    (omega (arith, c.if-m-gt-DIGITS.false)) (omega (arith, c.if-exponent-gt-EXPONENT.false))
    c.requires.1 (c.pattern.ensures ∙ scaled ∙ ap (literal_pattern v) read)
