-- `replay_log` is safe and ends. Each turn that pauses for room takes a byte or more of the log, each read adds one or more, and a read answers 0 once; after
-- 2^62 bytes, and what two windows hold, there is no further turn.
use mathlib.Core.Path.{refl}
use native.Mathlib.Omega.{arith}
use Rattle.replay.proofs.Reading.{read_some, not_yet}
use Rattle.replay.proofs.replay_log.Goals as goal

pub loop-cursor-init : goal.loop-cursor-init
loop-cursor-init g c = (c.requires.window_len.0, c.requires.window_len.1, refl, omega arith, omega arith)

pub turn-t-requires : goal.turn-t-requires
turn-t-requires g c =
    record {
      book = c.requires.book;
      memory_len = (
        c.loop-cursor.invariant.1,
        omega (arith, c.loop-cursor.invariant.2, c.requires.window_len.2),
        omega (arith, c.loop-cursor.invariant),
        omega (arith, c.loop-cursor.invariant.4),
      );
    }

pub loop-cursor-smaller-in-Full : goal.loop-cursor-smaller-in-Full
loop-cursor-smaller-in-Full g c = omega (arith, c.turn-t.ensures.turn_inside, c.turn-t.ensures.turn_inside.ahead c.in-Full.is, c.loop-cursor.invariant)

pub loop-cursor-preserved-in-Full : goal.loop-cursor-preserved-in-Full
loop-cursor-preserved-in-Full g c = (
  omega (arith, c.loop-cursor.invariant.0),
  omega (arith, c.loop-cursor.invariant.1),
  omega (arith, c.loop-cursor.invariant.2),
  omega (arith, c.turn-t.ensures.turn_inside.window, c.loop-cursor.invariant.3),
  omega (arith, c.turn-t.ensures.turn_inside.total, c.loop-cursor.invariant.4),
)

pub read_more-requires : goal.read_more-requires
read_more-requires g c = omega (arith, c.turn-t.ensures.turn_inside.window, c.loop-cursor.invariant)

pub overflow_add-held : goal.overflow_add-held
overflow_add-held g c = omega (arith, (read_some c.read_more.ensures c.in-Bytes.is).1, c.loop-cursor.invariant.0)

pub loop-cursor-smaller-in-Bytes : goal.loop-cursor-smaller-in-Bytes
loop-cursor-smaller-in-Bytes g c =
    omega (arith, c.turn-t.ensures.turn_inside, read_some c.read_more.ensures c.in-Bytes.is, c.loop-cursor.invariant, c.loop-cursor-test.true)

pub loop-cursor-preserved-in-Bytes : goal.loop-cursor-preserved-in-Bytes
loop-cursor-preserved-in-Bytes g c = (
  omega (arith, c.loop-cursor.invariant.0),
  omega (arith, c.loop-cursor.invariant.1),
  omega (arith, c.loop-cursor.invariant.2),
  omega (arith, (read_some c.read_more.ensures c.in-Bytes.is).1, c.loop-cursor.invariant.0),
  omega (arith, c.turn-t.ensures.turn_inside.total, (read_some c.read_more.ensures c.in-Bytes.is).1, c.loop-cursor.invariant, c.loop-cursor-test.true),
)

pub loop-cursor-smaller : goal.loop-cursor-smaller
loop-cursor-smaller g c = omega (arith, c.turn-t.ensures.turn_inside, not_yet c.if-last.false, c.loop-cursor.invariant)

pub loop-cursor-preserved : goal.loop-cursor-preserved
loop-cursor-preserved g c = (
  omega (arith, c.loop-cursor.invariant.0),
  omega (arith, c.loop-cursor.invariant.1),
  omega (arith, c.loop-cursor.invariant.2),
  omega (arith, c.turn-t.ensures.turn_inside.window, c.loop-cursor.invariant.3),
  omega (arith, c.turn-t.ensures.turn_inside.total, c.loop-cursor.invariant.4),
)

pub overflow_add-cursor : goal.overflow_add-cursor
overflow_add-cursor g c = omega (arith, c.turn-t.ensures.turn_inside.total, c.loop-cursor.invariant.4)

pub overflow_add-cursor-2 : goal.overflow_add-cursor-2
overflow_add-cursor-2 g c = omega (arith, c.loop-cursor.invariant.4)
