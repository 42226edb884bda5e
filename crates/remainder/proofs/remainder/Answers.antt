-- `remainder::remainder` meets its contract: a law for each way through it.
use mathlib.Core.Path.{sym, ◌∙◌}
use native.Mathlib.Omega.{arith}
use lib.Dec.{T}
use lib.Ieee.{binary32, fits}
use lib.Ieee.Bits.{to_bits-lt}
use borrow.Author.Tests.{leb-true, leb-false, ltb-true}
use borrow.Author.Rules.{rules}
use Rattle.remainder.proofs.Specials.{same, nan-dividend, nan-divisor, zero-divisor, infinite-dividend, below-infinity}
use Rattle.remainder.proofs.Remainders.{of-smaller, of-larger}
use Rattle.remainder.proofs.remainder.Goals as goal
use Rattle.remainder.proofs.remainder.Goals.{then-is_nan-via-then-is_nan, then-is_nan-via-else-is_nan+then-is_nan-2, then-b-eq0-via-then-b-eq0, then-b-eq0-via-else-b-eq0+then-a-ge-INFINITY}

pub returns-then-is_nan : goal.returns-then-is_nan
returns-then-is_nan c =
    let x = c.args.x in
    let y = c.args.y in
    c.quiet_nan.ensures ∙ sym (elim c.then-is_nan.branch [
      | then-is_nan-via-then-is_nan w ↦ nan-dividend x y (sym c.is_nan.ensures.value ∙ w.if-is_nan.true)
      | then-is_nan-via-else-is_nan+then-is_nan-2 w ↦ nan-divisor x y (sym w.is_nan-else-is_nan.ensures.value ∙ w.if-is_nan-2.true)
    ])

pub returns-then-b-eq0 : goal.returns-then-b-eq0
returns-then-b-eq0 c =
    let x = c.args.x in
    let y = c.args.y in
    let F : T (fits binary32 x) = search rules in
    let G : T (fits binary32 y) = search rules in
    c.quiet_nan-then-b-eq0.ensures ∙ sym (elim c.then-b-eq0.branch [
      | then-b-eq0-via-then-b-eq0 w ↦ zero-divisor x y G w.if-b-eq0.true
      | then-b-eq0-via-else-b-eq0+then-a-ge-INFINITY w ↦
          infinite-dividend x y F (same x (sym c.is_nan.ensures.value ∙ c.if-is_nan.false)) (omega (arith, leb-true, ltb-true))
    ])

pub returns-then-a-b : goal.returns-then-a-b
returns-then-a-b c =
    let x = c.args.x in
    let y = c.args.y in
    let F : T (fits binary32 x) = search rules in
    let G : T (fits binary32 y) = search rules in
    of-smaller x y F G (omega (arith, leb-false)) (same y (sym c.is_nan-else-is_nan.ensures.value ∙ c.if-is_nan-2.false)) (omega arith)

pub overflow_add-result : goal.overflow_add-result
overflow_add-result c =
    let x = c.args.x in
    let F : T (fits binary32 x) = search rules in
    omega (arith, to_bits-lt binary32 x F)

pub float_from_bits-result : goal.float_from_bits-result
float_from_bits-result c = below-infinity _ (omega arith)

pub returns : goal.returns
returns c =
    let x = c.args.x in
    let y = c.args.y in
    let F : T (fits binary32 x) = search rules in
    let G : T (fits binary32 y) = search rules in
    let r = c.pattern_rem in
    of-larger x y F G (omega (arith, leb-false)) _ r.result (omega arith) (omega arith) r.ensures.0 r.ensures.1 (omega arith)
