-- `replay_lines` meets its contract.
use Prim.Native.Nat.{◌-◌}
use lib.ListN.{length}
use Rattle.log_laws.specs.Replay.{lent, replay_from}
use Rattle.log_lines.specs.private.Steps.{cards_in, state_in}
use Rattle.log_replay.proofs.Playing.{Playing}
use Rattle.log_replay.proofs.replay_lines.Given as goal

abbrev pub invariant-loop-from : goal.invariant-loop-from
invariant-loop-from l =
    Playing (cards_in l.cards) (replay_from (cards_in l.cards) (lent (length l.initial.out)) (state_in l.initial.memory l.cursor.tick) l.cursor.at l.rest)
    l.initial.out l.cursor.at l.rest l.memory l.out l.from l.tick l.end

abbrev pub decreases-loop-from : goal.decreases-loop-from
decreases-loop-from l = length l.rest - l.from
