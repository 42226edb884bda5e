-- `judging::judged` meets its contract: one law for each way through it.
use mathlib.Core.Path.{sym, ap, ◌∙◌}
use native.Mathlib.Omega.{arith}
use Rattle.std.specs.Prelude.{Ok, Err}
use Rattle.std.proofs.lemmas.Result.{err_from_is_err_and}
use Rattle.card_file.proofs.judging.Parts.{parts, out_of_form, check-differs, not_above, own}
use Rattle.card_file.proofs.judging.judged.Goals as goal

pub returns-in_default : goal.returns-in_default
returns-in_default c = out_of_form c.args.s.now c.args.last (sym c.in_default.is ∙ c.requires)

pub overflow_sub-target_end : goal.overflow_sub-target_end
overflow_sub-target_end c =
    let p = parts c.args.s.now c.in-Some.f (sym c.in-Some.is ∙ c.requires) in
    omega (arith, p.target_at, p.expr-at, p.check-at, p.end-at, p.inside)

pub overflow_sub-expr_end : goal.overflow_sub-expr_end
overflow_sub-expr_end c =
    let p = parts c.args.s.now c.in-Some.f (sym c.in-Some.is ∙ c.requires) in
    omega (arith, p.target_at, p.expr-at, p.check-at, p.end-at, p.inside)

pub overflow_sub-lines : goal.overflow_sub-lines
overflow_sub-lines c =
    let p = parts c.args.s.now c.in-Some.f (sym c.in-Some.is ∙ c.requires) in
    omega (arith, p.target_at, p.expr-at, p.check-at, p.end-at, p.inside)

pub overflow_add-lines_end : goal.overflow_add-lines_end
overflow_add-lines_end c =
    let p = parts c.args.s.now c.in-Some.f (sym c.in-Some.is ∙ c.requires) in
    omega (arith, p.target_at, p.expr-at, p.check-at, p.end-at, p.inside)

pub slice_bounds-sum_of-count : goal.slice_bounds-sum_of-count
slice_bounds-sum_of-count c =
    let p = parts c.args.s.now c.in-Some.f (sym c.in-Some.is ∙ c.requires) in
    omega (arith, p.target_at, p.expr-at, p.check-at, p.end-at, p.inside)

pub slice_bounds-sum_of-start : goal.slice_bounds-sum_of-start
slice_bounds-sum_of-start c =
    let p = parts c.args.s.now c.in-Some.f (sym c.in-Some.is ∙ c.requires) in
    omega (arith, p.target_at, p.expr-at, p.check-at, p.end-at, p.inside)

pub slice_bounds-sum_of-end : goal.slice_bounds-sum_of-end
slice_bounds-sum_of-end c =
    let p = parts c.args.s.now c.in-Some.f (sym c.in-Some.is ∙ c.requires) in
    omega (arith, p.target_at, p.expr-at, p.check-at, p.end-at, p.inside)

pub overflow_add-to : goal.overflow_add-to
overflow_add-to c =
    let p = parts c.args.s.now c.in-Some.f (sym c.in-Some.is ∙ c.requires) in
    omega (arith, p.target_at, p.expr-at, p.check-at, p.end-at, p.inside)

pub slice_bounds-same_bytes-end : goal.slice_bounds-same_bytes-end
slice_bounds-same_bytes-end c =
    let p = parts c.args.s.now c.in-Some.f (sym c.in-Some.is ∙ c.requires) in
    omega (arith, p.target_at, p.expr-at, p.check-at, p.end-at, p.inside)

pub returns-then-not-same : goal.returns-then-not-same
returns-then-not-same c =
    let p = parts c.args.s.now c.in-Some.f (sym c.in-Some.is ∙ c.requires) in
    check-differs c.args.s.now c.args.last c.in-Some.f p c.sum_of.ensures c.digits_of-digits.ensures c.same_bytes-same.ensures (omega arith) c.if-not-same.true

pub returns-then-not-above : goal.returns-then-not-above
returns-then-not-above c =
    let p = parts c.args.s.now c.in-Some.f (sym c.in-Some.is ∙ c.requires) in
    not_above c.args.s.now c.args.last c.in-Some.f p c.sum_of.ensures c.digits_of-digits.ensures c.same_bytes-same.ensures c.if-not-same.false c.rises-above.ensures c.if-not-above.true

pub slice_bounds-formula_verdict-count : goal.slice_bounds-formula_verdict-count
slice_bounds-formula_verdict-count c =
    let p = parts c.args.s.now c.in-Some.f (sym c.in-Some.is ∙ c.requires) in
    omega (arith, p.target_at, p.expr-at, p.check-at, p.end-at, p.inside)

pub slice_bounds-formula_verdict-start : goal.slice_bounds-formula_verdict-start
slice_bounds-formula_verdict-start c =
    let p = parts c.args.s.now c.in-Some.f (sym c.in-Some.is ∙ c.requires) in
    omega (arith, p.target_at, p.expr-at, p.check-at, p.end-at, p.inside)

pub slice_bounds-formula_verdict-end : goal.slice_bounds-formula_verdict-end
slice_bounds-formula_verdict-end c =
    let p = parts c.args.s.now c.in-Some.f (sym c.in-Some.is ∙ c.requires) in
    omega (arith, p.target_at, p.expr-at, p.check-at, p.end-at, p.inside)

pub slice_bounds-formula_verdict-count-2 : goal.slice_bounds-formula_verdict-count-2
slice_bounds-formula_verdict-count-2 c =
    let p = parts c.args.s.now c.in-Some.f (sym c.in-Some.is ∙ c.requires) in
    omega (arith, p.target_at, p.expr-at, p.check-at, p.end-at, p.inside)

pub slice_bounds-formula_verdict-start-2 : goal.slice_bounds-formula_verdict-start-2
slice_bounds-formula_verdict-start-2 c =
    let p = parts c.args.s.now c.in-Some.f (sym c.in-Some.is ∙ c.requires) in
    omega (arith, p.target_at, p.expr-at, p.check-at, p.end-at, p.inside)

pub slice_bounds-formula_verdict-end-2 : goal.slice_bounds-formula_verdict-end-2
slice_bounds-formula_verdict-end-2 c =
    let p = parts c.args.s.now c.in-Some.f (sym c.in-Some.is ∙ c.requires) in
    omega (arith, p.target_at, p.expr-at, p.check-at, p.end-at, p.inside)

pub returns-in_err-formula_verdict : goal.returns-in_err-formula_verdict
returns-in_err-formula_verdict c =
    let p = parts c.args.s.now c.in-Some.f (sym c.in-Some.is ∙ c.requires) in
    let refused = err_from_is_err_and c.from_residual.result c.from_residual.ensures.1 in
    refused.1 ∙ ap Err refused.2
    ∙ own c.args.s.now c.args.last c.in-Some.f p c.sum_of.ensures c.digits_of-digits.ensures c.same_bytes-same.ensures
    c.if-not-same.false (sym c.in_err-formula_verdict.was ∙ c.formula_verdict.ensures) c.rises-above.ensures c.if-not-above.false

pub returns : goal.returns
returns c =
    let p = parts c.args.s.now c.in-Some.f (sym c.in-Some.is ∙ c.requires) in
    own c.args.s.now c.args.last c.in-Some.f p c.sum_of.ensures c.digits_of-digits.ensures c.same_bytes-same.ensures
    c.if-not-same.false (sym c.in_ok-formula_verdict.was ∙ c.formula_verdict.ensures) c.rises-above.ensures c.if-not-above.false
