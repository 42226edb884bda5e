-- `numerals::numeral_at` meets its contract.
use mathlib.Core.Path.{refl, sym, ◌∙◌}
use native.Mathlib.Omega.{arith}
use Rattle.token_table.proofs.Lexemes.{lexes-as}
use Rattle.token_table.proofs.numerals.Forms.{too_large, decimal-run, whole-mantissa, other-run}
use Rattle.token_table.proofs.numerals.numeral_at.Goals as goal

pub exponent_at-requires : goal.exponent_at-requires
exponent_at-requires c = (
  whole-mantissa c.args.text.now c.args.at
      c.requires.0 c.requires.1 c.digits-d.ensures.value_value
      c.digits-d.ensures.end_value.0 c.digits-d.ensures.end_value.1,
  sym c.digits-d.ensures.next_value ∙ c.if-next-eq69.true,
)

pub judged-requires : goal.judged-requires
judged-requires c = other-run c.args.text.now
    c.args.at c.requires.0
    c.requires.1 c.digits-d.ensures.value_value
    c.digits-d.ensures.end_value.0 c.digits-d.ensures.next_value
    (sym c.is_word.ensures ∙ c.if-is_word.true) c.if-next-eq69.false

pub returns-then-n-gt-LARGEST : goal.returns-then-n-gt-LARGEST
returns-then-n-gt-LARGEST c = too_large c.args.text.now
    c.args.at
    c.requires.0 c.requires.1
    c.digits-d.ensures.value_value c.digits-d.ensures.end_value.0
    c.digits-d.ensures.next_value
    (sym c.is_word.ensures ∙ c.if-is_word.false) c.if-next-eq46.false
    c.if-n-gt-LARGEST.true c.refused.ensures

pub returns : goal.returns
returns c = lexes-as c.word.ensures refl (decimal-run c.args.text.now
    c.args.at
    c.requires.0 c.requires.1
    c.digits-d.ensures.value_value c.digits-d.ensures.end_value.0
    c.digits-d.ensures.next_value
    (sym c.is_word.ensures ∙ c.if-is_word.false) c.if-next-eq46.false
    (omega (arith, c.if-n-gt-LARGEST.false)))
