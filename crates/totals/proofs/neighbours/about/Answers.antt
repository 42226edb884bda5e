-- `totals::neighbours::about` meets its contract.
use lib.IntN.{pos, ◌+ℤ◌}
use mir.Syntax.{w32}
use mir.Val.{SFits, to_z, of_z}
use mir.ValLaws.{to_z-of_z}
use Rattle.totals.proofs.neighbours.Enclosing.{within-whole, next_fits}
use borrow.Author.Rules.{rules}
use Rattle.totals.proofs.neighbours.about.Goals as goal
use Rattle.totals.proofs.neighbours.about.Goals.{After-back-below}

next : (c : After-back-below) → SFits w32 (to_z w32 (of_z w32 c.back-below.result) +ℤ pos 1)
next c =
    let F : SFits w32 c.back-below.result = search rules in rw (to_z-of_z w32 c.back-below.result F) (next_fits c.back-below.result c.back-below.ensures)

pub back-below-requires : goal.back-below-requires
back-below-requires c = within-whole (to_z w32 (of_z w32 c.args.z)) c.if-z.false c.if-z-gt-WHOLE.false

pub back-high-requires : goal.back-high-requires
back-high-requires c = within-whole (to_z w32 (of_z w32 c.args.z)) c.if-z.false c.if-z-gt-WHOLE.false

pub returns-then-encloses : goal.returns-then-encloses
returns-then-encloses c =
    rw (to_z-of_z w32 (to_z w32 (of_z w32 c.back-below.result) +ℤ pos 1) (next (goal.at.returns-then-encloses c).After-back-below))
    (c.encloses.ensures c.if-encloses.true)
