-- `totals::tally::average_of` meets its contract. The loop's invariant: the tally has taken every cell so far.
use mathlib.Core.Path.{◌≡◌, refl, sym, ap, ◌∙◌}
use mathlib.Core.Bool.{true, false}
use Prim.Native.Nat.{ℕ, ◌+◌, ◌≤◌}
use native.Mathlib.Omega.{arith}
use lib.IntN.{ℤ, nat_abs}
use borrow.Author.Rules.{rules}
use mir.Syntax.{w32}
use mir.Val.{SFits, to_z, of_z}
use mir.ValLaws.{to_z-of_z}
use Rattle.values.specs.declared.Value.TheVariants.{Int}
use Rattle.values.specs.declared.Outcome.{Outcome}
use Rattle.values.specs.declared.Outcome.TheVariants.{Done}
use Rattle.values.specs.Convert.{promoted}
use Rattle.values.specs.Singles.{zero_real}
use Rattle.memory.specs.Cells.{read_rule}
use Rattle.totals.specs.declared.Step.TheVariants as S
use Rattle.totals.proofs.Laws.{total-laws}
use Rattle.totals.proofs.integers.Whole.{all_there, all_read, all-narrow, none_read}
use Rattle.totals.proofs.tally.Reals.{begins-sum, average-none, tallied-begin, tallied-ends, of-any, sum-on, sum-lost}
use Rattle.totals.proofs.tally.average_of.Goals as goal
use Rattle.totals.proofs.tally.average_of.Goals.{After-whole_at-z, Start}

abbrev cells : Start → ℕ → Outcome
cells c = read_rule c.args.image.now c.args.cells.bank

cell-back : (c : After-whole_at-z) → to_z w32 (of_z w32 c.whole_at-z.result) ≡ c.whole_at-z.result
cell-back c = let F : SFits w32 c.whole_at-z.result = search rules in to_z-of_z w32 c.whole_at-z.result F

cell-read : (c : After-whole_at-z) → read_rule c.args.image.now c.args.cells.bank
    (c.args.cells.first + c.loop-k.k) ≡ Done (Int c.whole_at-z.result)
cell-read c =
    all_read c.args.image.now c.args.cells.bank c.args.cells.first c.args.cells.count c.args.cells.good c.args.cells.whole
    (rw c.requires at (sym c.are_in.ensures ∙ c.if-not-are_in.false))
    c.loop-k.k c.loop-k-test.true
    ∙ ap (λ (z : ℤ). Done (Int z)) (sym (rw c.requires at c.whole_at-z.ensures))

cell-narrow : (c : After-whole_at-z) → c.is_wide-wide.result ≡ false → nat_abs c.whole_at-z.result ≤ 65536
cell-narrow c w =
    rw (c.whole_at-z.ensures, c.requires)
    (all-narrow c.args.image.now c.args.cells.bank c.args.cells.first c.args.cells.count c.args.cells.good
    (λ j. omega (arith, c.shared_slice_known-1.given j)) (rw c.requires at (sym c.is_wide-wide.ensures ∙ w))
    (rw c.requires at (sym c.are_in.ensures ∙ c.if-not-are_in.false)) c.loop-k.k c.loop-k-test.true)

pub returns-then-not-are_in : goal.returns-then-not-are_in
returns-then-not-are_in c =
    let s = (goal.at.returns-then-not-are_in c).Start in
    let h = total-laws.range_small s.args.cells.bank s.args.cells.first s.args.cells.count s.args.cells.good in
    c.no_cells.ensures
    ∙ average-none (cells s) s.args.cells.first s.args.cells.count h.0
    (none_read s.args.image.now s.args.cells.bank s.args.cells.first s.args.cells.count s.args.cells.good
    (rw c.requires at (sym c.are_in.ensures ∙ c.if-not-are_in.true)))

pub loop-k-init : goal.loop-k-init
loop-k-init c =
    let s = (goal.at.loop-k-init c).Start in
    rw c.begin-t.ensures
    (tallied-begin S.Average (cells s) _ s.args.cells.first s.args.cells.count _
    (begins-sum true zero_real (cells s) s.args.cells.first s.args.cells.count))

pub whole_at-z-requires : goal.whole_at-z-requires
whole_at-z-requires c =
    let s = (goal.at.whole_at-z-requires c).Start in
    rw c.requires
    (all_there s.args.image.now s.args.cells.bank s.args.cells.first s.args.cells.count s.args.cells.good
    (rw c.requires at (sym c.are_in.ensures ∙ c.if-not-are_in.false))
    c.loop-k.k c.loop-k-test.true)

pub promoted_cell-requires : goal.promoted_cell-requires
promoted_cell-requires c w =
    let t = (goal.at.promoted_cell-requires c).After-whole_at-z in
    rw (cell-back t) (cell-narrow t w)

pub returns-then-not-is_finite : goal.returns-then-not-is_finite
returns-then-not-is_finite c =
    let s = (goal.at.returns-then-not-is_finite c).Start in
    let w = (goal.at.returns-then-not-is_finite c).After-whole_at-z in
    let h = total-laws.range_small s.args.cells.bank s.args.cells.first s.args.cells.count s.args.cells.good in
    let t = c.step-t in
    rw (c.ended.ensures, c.settled.ensures)
    (sum-lost S.Average (cells s) _ s.args.cells.first s.args.cells.count (of-any (cells s))
    c.loop-k.invariant
    c.loop-k-test.true (omega (arith, h.1)) (Int c.whole_at-z.result) (cell-read w)
    c.promoted_cell.result
    (c.promoted_cell.ensures ∙ ap promoted (cell-back w)) t.result t.ensures refl refl
    (sym c.is_finite.ensures ∙ c.if-not-is_finite.true))

pub loop-k-preserved : goal.loop-k-preserved
loop-k-preserved c =
    let s = (goal.at.loop-k-preserved c).Start in
    let w = (goal.at.loop-k-preserved c).After-whole_at-z in
    let h = total-laws.range_small s.args.cells.bank s.args.cells.first s.args.cells.count s.args.cells.good in
    let t = c.step-t in
    (sum-on S.Average (cells s) _ s.args.cells.first s.args.cells.count (of-any (cells s))
    c.loop-k.invariant
    c.loop-k-test.true (omega (arith, h.1)) (Int c.whole_at-z.result) (cell-read w)
    c.promoted_cell.result
    (c.promoted_cell.ensures ∙ ap promoted (cell-back w)) t.result t.ensures refl refl
    (sym c.is_finite.ensures ∙ c.if-not-is_finite.false))

pub returns : goal.returns
returns c =
    let s = (goal.at.returns c).Start in
    rw (c.ended-2.ensures, c.mean.ensures)
    (tallied-ends S.Average (cells s) _ s.args.cells.first s.args.cells.count c.loop-k.invariant
    c.loop-k-test.false c.loop-k.auto.k-end)
