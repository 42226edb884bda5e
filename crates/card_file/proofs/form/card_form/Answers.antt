-- `form::card_form` meets its contract: one law for each way through it.
use Rattle.card_file.proofs.form.Lines.{none_1, one, none_2, two, none-3, three, none-4, four, zero_number, no-check, whole}
use native.Mathlib.Omega.{arith}
use mathlib.Core.Path.{sym, ◌∙◌}
use Rattle.card_file.proofs.form.card_form.Goals as goal

pub returns-in_err-digits : goal.returns-in_err-digits
returns-in_err-digits c =
    let s = c.args.s.now in
    c.from_residual.ensures ∙ none_1 s (sym c.in_err-digits.was ∙ c.field_at.ensures)

pub returns-in_err-target_size : goal.returns-in_err-target_size
returns-in_err-target_size c =
    let s = c.args.s.now in
    let first = one s _ (sym c.in_ok-digits.was ∙ c.field_at.ensures) in
    c.from_residual-in_err-target_size.ensures ∙ none_2 s _ first (sym c.in_err-target_size.was ∙ c.field_at-2.ensures)

pub overflow_add-target_end : goal.overflow_add-target_end
overflow_add-target_end c =
    let s = c.args.s.now in
    let first = one s _ (sym c.in_ok-digits.was ∙ c.field_at.ensures) in
    let second = two s _ _ first (sym c.in_ok-target_size.was ∙ c.field_at-2.ensures) in
    omega (arith, second.inside)

pub overflow_add-target_end-2 : goal.overflow_add-target_end-2
overflow_add-target_end-2 c =
    let s = c.args.s.now in
    let first = one s _ (sym c.in_ok-digits.was ∙ c.field_at.ensures) in
    let second = two s _ _ first (sym c.in_ok-target_size.was ∙ c.field_at-2.ensures) in
    omega (arith, second.inside)

pub field_at-requires-3 : goal.field_at-requires-3
field_at-requires-3 c =
    let s = c.args.s.now in
    let first = one s _ (sym c.in_ok-digits.was ∙ c.field_at.ensures) in
    let second = two s _ _ first (sym c.in_ok-target_size.was ∙ c.field_at-2.ensures) in
    omega (arith, second.inside)

pub returns-in_err-expr_size : goal.returns-in_err-expr_size
returns-in_err-expr_size c =
    let s = c.args.s.now in
    let first = one s _ (sym c.in_ok-digits.was ∙ c.field_at.ensures) in
    let second = two s _ _ first (sym c.in_ok-target_size.was ∙ c.field_at-2.ensures) in
    c.from_residual-in_err-expr_size.ensures ∙ none-3 s _ _ second (sym c.in_err-expr_size.was ∙ c.field_at-3.ensures)

pub overflow_add-expr_end : goal.overflow_add-expr_end
overflow_add-expr_end c =
    let s = c.args.s.now in
    let first = one s _ (sym c.in_ok-digits.was ∙ c.field_at.ensures) in
    let second = two s _ _ first (sym c.in_ok-target_size.was ∙ c.field_at-2.ensures) in
    let third = three s _ _ _ second (sym c.in_ok-expr_size.was ∙ c.field_at-3.ensures) in
    omega (arith, third.inside)

pub overflow_add-expr_end-2 : goal.overflow_add-expr_end-2
overflow_add-expr_end-2 c =
    let s = c.args.s.now in
    let first = one s _ (sym c.in_ok-digits.was ∙ c.field_at.ensures) in
    let second = two s _ _ first (sym c.in_ok-target_size.was ∙ c.field_at-2.ensures) in
    let third = three s _ _ _ second (sym c.in_ok-expr_size.was ∙ c.field_at-3.ensures) in
    omega (arith, third.inside)

pub field_at-requires-4 : goal.field_at-requires-4
field_at-requires-4 c =
    let s = c.args.s.now in
    let first = one s _ (sym c.in_ok-digits.was ∙ c.field_at.ensures) in
    let second = two s _ _ first (sym c.in_ok-target_size.was ∙ c.field_at-2.ensures) in
    let third = three s _ _ _ second (sym c.in_ok-expr_size.was ∙ c.field_at-3.ensures) in
    omega (arith, third.inside)

pub returns-in_err-check_size : goal.returns-in_err-check_size
returns-in_err-check_size c =
    let s = c.args.s.now in
    let first = one s _ (sym c.in_ok-digits.was ∙ c.field_at.ensures) in
    let second = two s _ _ first (sym c.in_ok-target_size.was ∙ c.field_at-2.ensures) in
    let third = three s _ _ _ second (sym c.in_ok-expr_size.was ∙ c.field_at-3.ensures) in
    c.from_residual-in_err-check_size.ensures ∙ none-4 s _ _ _ third (sym c.in_err-check_size.was ∙ c.field_at-4.ensures)

pub overflow_add-check_end : goal.overflow_add-check_end
overflow_add-check_end c =
    let s = c.args.s.now in
    let first = one s _ (sym c.in_ok-digits.was ∙ c.field_at.ensures) in
    let second = two s _ _ first (sym c.in_ok-target_size.was ∙ c.field_at-2.ensures) in
    let third = three s _ _ _ second (sym c.in_ok-expr_size.was ∙ c.field_at-3.ensures) in
    let fourth = four s _ _ _ _ third (sym c.in_ok-check_size.was ∙ c.field_at-4.ensures) in
    omega (arith, fourth.inside)

pub returns-then-number-eq0 : goal.returns-then-number-eq0
returns-then-number-eq0 c =
    let s = c.args.s.now in
    let first = one s _ (sym c.in_ok-digits.was ∙ c.field_at.ensures) in
    let second = two s _ _ first (sym c.in_ok-target_size.was ∙ c.field_at-2.ensures) in
    let third = three s _ _ _ second (sym c.in_ok-expr_size.was ∙ c.field_at-3.ensures) in
    let fourth = four s _ _ _ _ third (sym c.in_ok-check_size.was ∙ c.field_at-4.ensures) in
    zero_number s _ _ _ _ _ fourth c.card_number-number.ensures c.if-number-eq0.true

pub slice_bounds-is_check-end : goal.slice_bounds-is_check-end
slice_bounds-is_check-end c =
    let s = c.args.s.now in
    let first = one s _ (sym c.in_ok-digits.was ∙ c.field_at.ensures) in
    let second = two s _ _ first (sym c.in_ok-target_size.was ∙ c.field_at-2.ensures) in
    let third = three s _ _ _ second (sym c.in_ok-expr_size.was ∙ c.field_at-3.ensures) in
    let fourth = four s _ _ _ _ third (sym c.in_ok-check_size.was ∙ c.field_at-4.ensures) in
    omega (arith, fourth.inside)

pub returns-then-not-is_check : goal.returns-then-not-is_check
returns-then-not-is_check c =
    let s = c.args.s.now in
    let first = one s _ (sym c.in_ok-digits.was ∙ c.field_at.ensures) in
    let second = two s _ _ first (sym c.in_ok-target_size.was ∙ c.field_at-2.ensures) in
    let third = three s _ _ _ second (sym c.in_ok-expr_size.was ∙ c.field_at-3.ensures) in
    let fourth = four s _ _ _ _ third (sym c.in_ok-check_size.was ∙ c.field_at-4.ensures) in
    no-check s _ _ _ _ _ fourth c.card_number-number.ensures c.is_check.ensures c.if-not-is_check.true

pub returns : goal.returns
returns c =
    let s = c.args.s.now in
    let first = one s _ (sym c.in_ok-digits.was ∙ c.field_at.ensures) in
    let second = two s _ _ first (sym c.in_ok-target_size.was ∙ c.field_at-2.ensures) in
    let third = three s _ _ _ second (sym c.in_ok-expr_size.was ∙ c.field_at-3.ensures) in
    let fourth = four s _ _ _ _ third (sym c.in_ok-check_size.was ∙ c.field_at-4.ensures) in
    whole s _ _ _ _ _ fourth c.card_number-number.ensures c.is_check.ensures c.if-number-eq0.false c.if-not-is_check.false
