-- `find_card` meets its contract.
use Prim.Native.Nat.{◌+◌, ◌-◌, ◌*◌}
use Rattle.log_laws.specs.Replay.{card_of}
use Rattle.log_lines.specs.private.Steps.{cards_in}
use Rattle.log_lines.proofs.Rows.{Seeks}
use Rattle.log_lines.proofs.find_card.Given as goal

abbrev pub invariant-loop-card : goal.invariant-loop-card
invariant-loop-card l = Seeks l.cards l.read (card_of l.k (cards_in l.cards)) l.k (3 + 5 * l.card) (l.count - l.card)
