-- `verifier::kinds::known` meets its contract: an arm for each class.
use mathlib.Core.Path.{refl}
use mathlib.Core.Logic.{inl, inr}
use mathlib.Core.Bool.{false}
use Rattle.verifier.proofs.kinds.Standing.{gives-known, turns-known, pairs-known, known_by}
use Rattle.verifier.proofs.kinds.known.Goals as goal

pub returns-in-PushInt : goal.returns-in-PushInt
returns-in-PushInt c = known_by _ _ c.class_of.ensures c.in-PushInt.is _ refl

pub returns-in-PushReal : goal.returns-in-PushReal
returns-in-PushReal c = known_by _ _ c.class_of.ensures c.in-PushReal.is _ (gives-known _ c.real_kind.ensures)

pub returns-in-Jump : goal.returns-in-Jump
returns-in-Jump c = elim c.in-Jump.is [
  | inl e ↦ known_by _ _ c.class_of.ensures e _ c.stays.ensures
  | inr (inl e) ↦ known_by _ _ c.class_of.ensures e _ c.stays.ensures
  | inr (inr e) ↦ known_by _ _ c.class_of.ensures e _ c.stays.ensures
]

pub returns-in-Tick : goal.returns-in-Tick
returns-in-Tick c = known_by _ _ c.class_of.ensures c.in-Tick.is _ (gives-known _ c.tick_kind.ensures)

pub returns-in-Since : goal.returns-in-Since
returns-in-Since c = known_by _ _ c.class_of.ensures c.in-Since.is _ (turns-known _ c.since_kind.ensures)

pub returns-in-Load : goal.returns-in-Load
returns-in-Load c = known_by _ _ c.class_of.ensures c.in-Load.is _ (gives-known _ c.load_kind.ensures)

pub returns-in-LoadIndexed : goal.returns-in-LoadIndexed
returns-in-LoadIndexed c = known_by _ _ c.class_of.ensures c.in-LoadIndexed.is _ (turns-known _ (c.indexed_kind.ensures 0))

pub returns-in-Unary : goal.returns-in-Unary
returns-in-Unary c = known_by _ _ c.class_of.ensures c.in-Unary.is _ (turns-known _ c.unary_kind.ensures)

pub returns-in-Binary : goal.returns-in-Binary
returns-in-Binary c = known_by _ _ c.class_of.ensures c.in-Binary.is _ (pairs-known _ c.binary_kind.ensures)

pub returns-in-Total : goal.returns-in-Total
returns-in-Total c = known_by _ _ c.class_of.ensures c.in-Total.is _ (gives-known _ c.total_kind.ensures)

pub returns-in-Match : goal.returns-in-Match
returns-in-Match c = known_by _ _ c.class_of.ensures c.in-Match.is _ (turns-known _ (c.match_kind.ensures 0))

pub returns-in-Unknown : goal.returns-in-Unknown
returns-in-Unknown c = known_by _ _ c.class_of.ensures c.in-Unknown.is _ {r = false} refl
