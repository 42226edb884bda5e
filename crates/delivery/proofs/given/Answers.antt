-- `given` meets its contract: the integer or the single of the pattern.
use mathlib.Core.Path.{◌≡◌, ap, sym, ◌∙◌}
use mir.Syntax.{w32}
use mir.Val.{SFits}
use mir.ValLaws.{to_z-of_z}
use Rattle.values.specs.declared.Value.TheVariants.{Int}
use Rattle.values.proofs.patterns.Exponents.{no_nan}
use Rattle.memory.specs.Store.{is_finite}
use Rattle.delivery.proofs.Values.{integer, real}
use borrow.Author.Rules.{rules}
use Rattle.delivery.proofs.given.Goals as goal

pub returns-then-kind-eq0 : goal.returns-then-kind-eq0
returns-then-kind-eq0 c =
    let s = c in
    let at-from-pattern = c.from_pattern in
    let z = at-from-pattern.result in
    let F : SFits w32 z = search rules in
    ap Int (to_z-of_z w32 z F) ∙ ap Int at-from-pattern.ensures ∙ sym
    (integer c.args.kind c.args.bits c.if-kind-eq0.true)

pub float_from_bits-result : goal.float_from_bits-result
float_from_bits-result c =
    let s = c in
    no_nan c.args.bits (ap is_finite (sym (real c.args.kind c.args.bits c.if-kind-eq0.false)) ∙ c.requires)

pub returns : goal.returns
returns c =
    let s = c in
    sym (real c.args.kind c.args.bits c.if-kind-eq0.false)
