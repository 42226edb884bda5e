-- `is_finite_given` meets its contract: an integer, or the test of the pattern.
use mathlib.Core.Path.{◌≡◌, ap, sym, ◌∙◌}
use Rattle.memory.specs.Store.{is_finite}
use Rattle.delivery.proofs.Values.{integer, real}
use borrow.Author.Rules.{rules}
use Rattle.delivery.proofs.is_finite_given.Goals as goal

pub returns-then-kind-eq0 : goal.returns-then-kind-eq0
returns-then-kind-eq0 c =
    let s = c in
    ap is_finite (sym (integer c.args.kind c.args.bits c.if-kind-eq0.true))

pub returns : goal.returns
returns c =
    let s = c in
    c.is_finite_single.ensures ∙ ap is_finite (sym (real c.args.kind c.args.bits c.if-kind-eq0.false))
