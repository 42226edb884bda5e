-- `turn` meets its contract.
use mathlib.Core.Path.{sym}
use Prim.Native.Nat.{◌≤◌}
use native.Mathlib.Omega.{arith}
use lib.ListN.{length}
use lib.Seq.{length-take-le}
use Rattle.log_lines.specs.private.Steps.{cards_in, state_in}
use Rattle.log_window.proofs.Turns.{at_most, from, to, gives, stays}
use Rattle.log_window.proofs.turn.Goals as goal

pub slice_bounds-playable_bytes-end-2 : goal.slice_bounds-playable_bytes-end-2
slice_bounds-playable_bytes-end-2 c = sym (length-take-le _ _ c.requires.memory_len.2)

pub slice_bounds-replay_lines-end : goal.slice_bounds-replay_lines-end
slice_bounds-replay_lines-end c = omega (
  arith,
  at_most (length c.args.window.now)
      c.args.last c.args.window.now
      c.args.held c.requires.memory_len.2
      c.playable_bytes-n.ensures,
  c.requires.memory_len.2,
)

pub slice_bounds-replay_lines-end-2 : goal.slice_bounds-replay_lines-end-2
slice_bounds-replay_lines-end-2 c =
    let h : c.playable_bytes-n.result ≤ length c.args.window.now =
    omega (
      arith,
      at_most (length c.args.window.now)
          c.args.last
          c.args.window.now
          c.args.held c.requires.memory_len.2
          c.playable_bytes-n.ensures,
      c.requires.memory_len.2,
    ) in
    sym (length-take-le _ _ h)

pub overflow_sub-taken : goal.overflow_sub-taken
overflow_sub-taken c = omega (
  arith,
  from (cards_in c.args.cards.now) (length c.args.window.now) (length c.args.out.now) c.args.last (state_in c.args.memory.now c.args.cursor.tick)
      c.args.cursor c.args.window.now c.args.held c.requires.memory_len.2 c.playable_bytes-n.ensures c.replay_lines-r.ensures,
)

pub replay_lines-r-requires-clause-memory_len : goal.replay_lines-r-requires-clause-memory_len
replay_lines-r-requires-clause-memory_len c =
    let h = at_most (length c.args.window.now) c.args.last c.args.window.now c.args.held c.requires.memory_len.2 c.playable_bytes-n.ensures in (
      c.requires.memory_len.0,
      omega (
        arith,
        length-take-le c.playable_bytes-n.result c.args.window.now (omega (arith, h, c.requires.memory_len.2)),
        h,
        c.requires.memory_len.3,
      ),
    )

pub keep-kept-requires : goal.keep-kept-requires
keep-kept-requires c = (
  to (cards_in c.args.cards.now) (length c.args.window.now) (length c.args.out.now) c.args.last (state_in c.args.memory.now c.args.cursor.tick)
      c.args.cursor c.args.window.now c.args.held c.requires.memory_len.2 c.playable_bytes-n.ensures c.replay_lines-r.ensures,
  c.requires.memory_len.2,
)

pub returns-clause-turn_gives : goal.returns-clause-turn_gives
returns-clause-turn_gives c =
    gives (cards_in c.args.cards.now) (length c.args.window.now) (length c.args.out.now) c.args.last (state_in c.args.memory.now c.args.cursor.tick)
    c.args.cursor c.args.window.now c.args.held c.requires.memory_len.2 c.playable_bytes-n.ensures c.replay_lines-r.ensures
    c.keep-kept.ensures

pub returns-clause-turn_inside : goal.returns-clause-turn_inside
returns-clause-turn_inside c =
    stays (cards_in c.args.cards.now) (length c.args.window.now) (length c.args.out.now) c.args.last (state_in c.args.memory.now c.args.cursor.tick)
    c.args.cursor c.args.window.now c.args.held c.requires.memory_len.2 c.playable_bytes-n.ensures c.replay_lines-r.ensures
    c.keep-kept.ensures c.requires.memory_len.0 c.requires.memory_len.1 c.requires.memory_len.3
