-- `cutting::part_end` meets its contract: the byte looked at lies in the part.
use Rattle.card_salvage.proofs.cutting.Ends.{start, next, ends, file-ends}
use mathlib.Core.Path.{sym, ◌∙◌}
use native.Mathlib.Omega.{arith}
use Rattle.card_salvage.proofs.cutting.part_end.Goals as goal

pub loop-last-init : goal.loop-last-init
loop-last-init c = start _ _ c.requires

pub ends_at-requires : goal.ends_at-requires
ends_at-requires c = c.loop-last.invariant.inside

pub returns-then-ends_at : goal.returns-then-ends_at
returns-then-ends_at c = ends _ _ _ c.loop-last.invariant (sym c.if-ends_at.true ∙ c.ends_at.ensures)

pub loop-last-preserved : goal.loop-last-preserved
loop-last-preserved c = next _ _ _ c.loop-last.invariant (omega (arith, c.loop-last-test.true)) (sym c.if-ends_at.false ∙ c.ends_at.ensures)

pub returns : goal.returns
returns c = file-ends _ _ _ c.loop-last.invariant (omega (arith, c.loop-last-test.false))
