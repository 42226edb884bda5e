-- `integers::unary` meets its contract: each operator is one operation of values, or none.
use mathlib.Core.Path.{refl, ap, ◌∙◌}
use lib.IntN.{pos, neg_ℤ, nat_abs}
use mir.Syntax.{w32}
use mir.Val.{SFits}
use mir.ValLaws.{to_z-of_z}
use Rattle.values.specs.declared.Value.TheVariants.{Int}
use Rattle.values.specs.declared.Outcome.TheVariants.{Done}
use Rattle.values.specs.Integers.{exact_int}
use Rattle.values.specs.Patterns.{complement_int}
use Rattle.operators.specs.Operators.{truth_rule}
use Rattle.operators.proofs.Cases.{on-int}
use borrow.Author.Rules.{rules}
use Rattle.operators.proofs.integers.unary.Goals as goal

pub returns-in-Neg : goal.returns-in-Neg
returns-in-Neg c =
    let F : SFits w32 c.args.z = search rules in
    rw c.in-Neg.is (on-int (λ z. exact_int (neg_ℤ z)) F c.negate.ensures)

pub returns-in-Complement : goal.returns-in-Complement
returns-in-Complement c =
    let F : SFits w32 c.args.z = search rules in
    let R : SFits w32 c.complement.result = search rules in
    rw c.in-Complement.is (ap (λ z. Done (Int z)) (to_z-of_z w32 c.complement.result R ∙ on-int complement_int F c.complement.ensures))

pub returns-in-Not : goal.returns-in-Not
returns-in-Not c =
    let F : SFits w32 c.args.z = search rules in
    let t = on-int (λ z. truth_rule (Int z)) F c.truth.ensures in
    rw (c.in-Not.is, ← t, ← c.from_bool.ensures)

pub returns-in-Abs : goal.returns-in-Abs
returns-in-Abs c =
    let F : SFits w32 c.args.z = search rules in
    rw c.in-Abs.is (on-int (λ z. exact_int (pos (nat_abs z))) F c.absolute.ensures)

pub returns-in-ToReal : goal.returns-in-ToReal
returns-in-ToReal c = rw c.in-ToReal.is refl

pub returns-in-Trunc : goal.returns-in-Trunc
returns-in-Trunc c =
    let F : SFits w32 c.args.z = search rules in
    rw (c.in-Trunc.is, to_z-of_z w32 c.args.z F)

pub returns-in-Round : goal.returns-in-Round
returns-in-Round c =
    let F : SFits w32 c.args.z = search rules in
    rw (c.in-Round.is, to_z-of_z w32 c.args.z F)

pub returns-in-Frac : goal.returns-in-Frac
returns-in-Frac c = rw c.in-Frac.is refl
