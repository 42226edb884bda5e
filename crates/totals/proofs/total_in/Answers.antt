-- `totals::total_in` meets its contract: the total, or without reals an arm for each total of integers.
use mathlib.Core.Path.{◌≡◌, ap}
use Rattle.values.specs.declared.Kind.TheVariants as K
use Rattle.memory.specs.Cells.{bank_kind}
use Rattle.totals.specs.Totals.{real_total}
use Rattle.totals.proofs.Runs.{not-real, sums, chooses}
use Rattle.totals.proofs.Admitted.{total-whole}
use Rattle.totals.proofs.total_in.Goals as goal

pub returns-in-Sum : goal.returns-in-Sum
returns-in-Sum c =
    let a = c.args in
    let b = a.cells in
    let same = c.in-Some.ensures in
    let kind : bank_kind b.bank ≡ K.Int = rw same.0 at c.in-Some.whole.whole in
    total-whole a.reals a.image.now a.op b.bank b.first b.count c.if-reals.false (not-real b.bank kind) (ap real_total c.in-Sum.is)
    (sums a.image.now b.bank b.first b.count a.op c.in-Sum.is (rw kind (rw (same.0, same.1, same.2) at c.sum.ensures)))

pub returns-in-Choice : goal.returns-in-Choice
returns-in-Choice c =
    let a = c.args in
    let b = a.cells in
    let same = c.in-Some.ensures in
    let kind : bank_kind b.bank ≡ K.Int = rw same.0 at c.in-Some.whole.whole in
    total-whole a.reals a.image.now a.op b.bank b.first b.count c.if-reals.false (not-real b.bank kind) (ap real_total c.in-Choice.is)
    (chooses a.image.now b.bank b.first b.count a.op _ c.in-Choice.is (rw kind (rw (same.0, same.1, same.2) at c.choose.ensures)))
