-- `totals::integers::choose_of` meets its contract. The loop's invariant: what is held is what the cells so far come to.
use mathlib.Core.Path.{◌≡◌, sym, ap, ◌∙◌}
use Prim.Native.Nat.{◌+◌}
use lib.IntN.{ℤ}
use borrow.Author.Rules.{rules}
use mir.Syntax.{w32}
use mir.Val.{SFits, to_z}
use mir.ValLaws.{to_z-of_z}
use Rattle.values.specs.declared.Value.TheVariants.{Int}
use Rattle.values.specs.declared.Outcome.TheVariants.{Done}
use Rattle.memory.specs.Cells.{read_rule}
use Rattle.values.specs.Integers.{choice_int}
use Rattle.totals.specs.declared.Step.TheVariants as S
use Rattle.totals.proofs.integers.Whole.{all_read, choice-none, choice-held, held-ends, holds}
use Rattle.totals.proofs.integers.choose_of.Goals as goal
use Rattle.totals.proofs.integers.choose_of.Goals.{After-whole_at-z}

cell-read : (c : After-whole_at-z) → read_rule c.args.image.now c.args.cells.bank (c.args.cells.first + c.loop-k.k) ≡ Done (Int c.whole_at-z.result)
cell-read c =
    all_read c.args.image.now c.args.cells.bank c.args.cells.first c.args.cells.count c.args.cells.good c.args.cells.whole (rw c.requires at (sym c.are_in.ensures ∙ c.if-not-are_in.false))
    c.loop-k.k c.loop-k-test.true
    ∙ ap (λ (z : ℤ). Done (Int z)) (sym (rw c.requires at c.whole_at-z.ensures))

pub returns-then-not-are_in : goal.returns-then-not-are_in
returns-then-not-are_in c =
    c.no_cells.ensures
    ∙ choice-none c.args.image.now c.args.cells.bank
    c.args.cells.first c.args.cells.count c.args.cells.good
    (rw c.requires at (sym c.are_in.ensures ∙ c.if-not-are_in.true)) c.args.o

pub loop-k-init : goal.loop-k-init
loop-k-init c =
    let a = c.args in
    let F : SFits w32 c.whole_at-a.result = search rules in
    (rw (to_z-of_z w32 c.whole_at-a.result F)
    (choice-held a.image.now a.cells.bank a.cells.first a.cells.count c.args.cells.good
    c.args.cells.whole (rw c.requires at (sym c.are_in.ensures ∙ c.if-not-are_in.false)) a.o
    c.whole_at-a.result (rw c.requires at c.whole_at-a.ensures)))

pub loop-k-preserved : goal.loop-k-preserved
loop-k-preserved c =
    let a = c.args in
    let t = (goal.at.loop-k-preserved c).After-whole_at-z in
    let F : SFits w32 c.choose-a.result = search rules in
    let G : SFits w32 c.whole_at-z.result = search rules in
    (rw (to_z-of_z w32 c.choose-a.result F)
    (holds (S.Choose a.o) (read_rule a.image.now a.cells.bank) _ a.cells.first a.cells.count c.loop-k.invariant c.loop-k-test.true c.whole_at-z.result
    (cell-read t) c.choose-a.result
    (ap (λ (z : ℤ). Done (Int z))
    (sym (c.choose-a.ensures ∙ ap (choice_int a.o (to_z w32 c.loop-k.a-bits)) (to_z-of_z w32 c.whole_at-z.result G))))))

pub returns : goal.returns
returns c =
    let a = c.args in
    c.ended.ensures
    ∙ held-ends (S.Choose a.o) (read_rule a.image.now a.cells.bank) _ a.cells.first a.cells.count c.loop-k.invariant
    c.loop-k-test.false c.loop-k.auto.k-end
