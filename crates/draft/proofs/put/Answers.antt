-- `draft::put` meets its contract.
use mathlib.Core.Path.{sym, ap}
use lib.ListN.{set}
use lib.Seq.{set_out}
use Rattle.draft.proofs.put.Goals as goal

pub returns-then-place-draft : goal.returns-then-place-draft
returns-then-place-draft c = ap (set c.args.draft.now c.args.place) c.join.ensures

pub returns-else-place-draft : goal.returns-else-place-draft
returns-else-place-draft c = sym (set_out _ _ _ c.if-place-draft.false)
