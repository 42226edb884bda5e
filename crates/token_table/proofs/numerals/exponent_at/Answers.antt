-- `numerals::exponent_at` meets its contract: the run behind the sign is the exponent's digits, or the numeral is refused.
use mathlib.Core.Path.{sym, ap, ◌∙◌}
use Prim.Native.Nat.{ℕ, ◌+◌}
use native.Mathlib.Omega.{arith}
use borrow.Author.Rules.{rules}
use Rattle.tokens.specs.Numerals.{is_sign}
use Rattle.token_table.proofs.numerals.Forms.{one_byte, literal-fits, within-e, first-within, no_exponent, longer-exponent, exponent-run}
use Rattle.token_table.proofs.numerals.exponent_at.Goals as goal

pub overflow_add-first-2 : goal.overflow_add-first-2
overflow_add-first-2 c = omega (
  arith,
  one_byte (is_sign c.byte_at-sign.result) c.sign_length.ensures,
  within-e c.requires.0 c.requires.1,
)

pub digits-d-requires : goal.digits-d-requires
digits-d-requires c = (
  first-within c.requires.0 c.requires.1
      c.byte_at-sign.ensures (ap (λ (k : ℕ). c.args.m.end + 1 + k) c.sign_length.ensures),
  search rules,
)

pub returns-then-end-first : goal.returns-then-end-first
returns-then-end-first c = no_exponent c.requires.0
    c.requires.1 c.byte_at-sign.ensures
    (ap (λ (k : ℕ). c.args.m.end + 1 + k)
    c.sign_length.ensures) c.digits-d.ensures.value_value c.digits-d.ensures.end_value.0
    c.if-end-first.true c.refused.ensures

pub returns-then-is_run : goal.returns-then-is_run
returns-then-is_run c = longer-exponent c.requires.0
    c.requires.1
    c.byte_at-sign.ensures
    (ap (λ (k : ℕ). c.args.m.end + 1 + k)
    c.sign_length.ensures) c.digits-d.ensures.value_value
    c.digits-d.ensures.end_value.0 c.digits-d.ensures.next_value
    (sym c.is_run.ensures ∙ c.if-is_run.true) c.refused-then-is_run.ensures

pub literal-requires : goal.literal-requires
literal-requires c = literal-fits c.requires.0

pub returns : goal.returns
returns c = exponent-run c.requires.0
    c.requires.1
    c.byte_at-sign.ensures
    (ap (λ (k : ℕ). c.args.m.end + 1 + k)
    c.sign_length.ensures) c.digits-d.ensures.value_value
    c.digits-d.ensures.end_value.0 c.digits-d.ensures.next_value
    c.if-end-first.false (sym c.is_run.ensures ∙ c.if-is_run.false) c.literal.ensures
