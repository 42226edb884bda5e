-- `replay_log` is safe and ends. Each turn that pauses for room takes a byte or more of the log, each read adds one or more, and a read answers 0 once; after
-- 2^62 bytes, and what two windows hold, there is no further turn.
use mathlib.Core.Path.{◌≡◌}
use mathlib.Core.Bool.{cond}
use Prim.Native.Nat.{◌+◌, ◌-◌, ◌*◌, ◌≤◌}
use lib.ListN.{length}
use Rattle.memory.specs.Layout.{image_size}
use Rattle.replay.proofs.replay_log.Given as goal

abbrev pub invariant-loop-cursor : goal.invariant-loop-cursor
invariant-loop-cursor g l =
    (length l.window ≡ 65536) × (length l.memory ≡ image_size) × (length l.out ≡ length l.initial.out) × (l.held ≤ 65536)
    × (l.cursor.at + l.held ≤ 4611686018427518976)

abbrev pub decreases-loop-cursor : goal.decreases-loop-cursor
decreases-loop-cursor g l =
    2 * (4611686018427518976 - (l.cursor.at + l.held)) + l.held + cond l.last 0 1
