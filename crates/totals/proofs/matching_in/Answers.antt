-- `totals::matching_in` meets its contract: the IF forms, or without reals those of integers compared with an integer.
use mathlib.Core.Path.{◌≡◌, ap}
use borrow.Author.Rules.{rules}
use mir.Syntax.{w32}
use mir.Val.{SFits}
use mir.ValLaws.{to_z-of_z}
use Rattle.values.specs.declared.Kind.TheVariants as K
use Rattle.values.specs.declared.Value.TheVariants.{Int}
use Rattle.operators.specs.Reals.{real_value}
use Rattle.memory.specs.Cells.{bank_kind}
use Rattle.totals.proofs.Runs.{not-real, counts-matches, sums-matches}
use Rattle.totals.proofs.integers.Passing.{enclosed-whole}
use Rattle.totals.proofs.Admitted.{match-whole}
use Rattle.totals.proofs.matching_in.Goals as goal

pub returns-in-Count : goal.returns-in-Count
returns-in-Count c =
    let a = c.args in
    let b = a.cells in
    let same = c.in-Some.ensures in
    let kind : bank_kind b.bank ≡ K.Int = rw same.0 at c.in-Some.whole.whole in
    let F : SFits w32 c.in-Int.z = search rules in
    match-whole a.reals a.image.now a.op a.v b.bank b.first b.count c.if-reals.false (not-real b.bank kind) (ap real_value c.in-Int.is)
    (counts-matches a.image.now b.bank b.first b.count a.op _ a.v c.in-Count.is
    (rw (kind, c.in-Int.is)
    ((rw (to_z-of_z w32 c.in-Int.z F, same.0, same.1, same.2) at c.matching-in-Count.ensures) (Int c.in-Int.z) (enclosed-whole c.in-Int.z))))

pub returns-in-Sum : goal.returns-in-Sum
returns-in-Sum c =
    let a = c.args in
    let b = a.cells in
    let same = c.in-Some.ensures in
    let kind : bank_kind b.bank ≡ K.Int = rw same.0 at c.in-Some.whole.whole in
    let F : SFits w32 c.in-Int.z = search rules in
    match-whole a.reals a.image.now a.op a.v b.bank b.first b.count c.if-reals.false (not-real b.bank kind) (ap real_value c.in-Int.is)
    (sums-matches a.image.now b.bank b.first b.count a.op _ a.v c.in-Sum.is
    (rw (kind, c.in-Int.is)
    ((rw (to_z-of_z w32 c.in-Int.z F, same.0, same.1, same.2) at c.matching-in-Sum.ensures) (Int c.in-Int.z) (enclosed-whole c.in-Int.z))))
