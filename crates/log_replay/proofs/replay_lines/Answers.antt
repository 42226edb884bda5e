-- `replay_lines` meets its contract.
use mathlib.Core.Path.{refl, ap}
use native.Mathlib.Omega.{arith}
use lib.ListN.{length}
use Rattle.log_replay.proofs.Playing.{start, ended, filled, long, go_on, unmoved, halt}
use Rattle.log_replay.proofs.replay_lines.Goals as goal

pub loop-from-init : goal.loop-from-init
loop-from-init c = start _ _ _ _ _ _ _ c.requires.memory_len.0 refl

pub overflow_add-at : goal.overflow_add-at
overflow_add-at c = omega (arith, c.requires.memory_len.1, c.loop-from.invariant.inside)

pub overflow_sub-out : goal.overflow_sub-out
overflow_sub-out c = omega (arith, c.loop-from.invariant.fits, long c.loop-from.invariant)

pub returns-then-out-end-lt-LINE_ROOM : goal.returns-then-out-end-lt-LINE_ROOM
returns-then-out-end-lt-LINE_ROOM c = filled _ _ _ _ _ c.loop-from.invariant c.loop-from-test.true
    (omega (arith, long c.loop-from.invariant, c.if-out-end-lt-LINE_ROOM.true))

pub entry_at-requires : goal.entry_at-requires
entry_at-requires c = c.until-k.ensures.0

pub overflow_add-from : goal.overflow_add-from
overflow_add-from c = omega (arith, c.until-k.ensures.1)

pub overflow_add-from-in-Some : goal.overflow_add-from-in-Some
overflow_add-from-in-Some c = omega (
  arith,
  (go_on c.loop-from.invariant c.until-k.ensures.0
      c.entry_at.ensures.value
      c.take_line.ensures
      c.loop-from-test.true
      (omega (
        arith,
        long c.loop-from.invariant,
        c.if-out-end-lt-LINE_ROOM.false,
      ))
      c.in-Some.is (omega (
        arith,
        c.loop-from.invariant.image,
      ))).inside,
)

pub loop-from-smaller : goal.loop-from-smaller
loop-from-smaller c = omega (
  arith,
  (go_on c.loop-from.invariant c.until-k.ensures.0
      c.entry_at.ensures.value
      c.take_line.ensures
      c.loop-from-test.true
      (omega (
        arith,
        long c.loop-from.invariant,
        c.if-out-end-lt-LINE_ROOM.false,
      ))
      c.in-Some.is (omega (
        arith,
        c.loop-from.invariant.image,
      ))).inside,
  c.loop-from-test.true,
)

pub loop-from-preserved : goal.loop-from-preserved
loop-from-preserved c = go_on c.loop-from.invariant c.until-k.ensures.0
    c.entry_at.ensures.value
    c.take_line.ensures
    c.loop-from-test.true
    (omega (
      arith,
      long c.loop-from.invariant,
      c.if-out-end-lt-LINE_ROOM.false,
    ))
    c.in-Some.is (omega (
      arith,
      c.loop-from.invariant.image,
    ))

pub put_refusal-last-requires : goal.put_refusal-last-requires
put_refusal-last-requires c = omega (
  arith,
  long c.loop-from.invariant,
  c.if-out-end-lt-LINE_ROOM.false,
  ap length (unmoved c.loop-from.invariant c.until-k.ensures.0
      c.entry_at.ensures.value
      c.take_line.ensures
      c.loop-from-test.true
      (omega (
        arith,
        long c.loop-from.invariant,
        c.if-out-end-lt-LINE_ROOM.false,
      ))
      c.in-None.is).1,
)

pub returns-in-None : goal.returns-in-None
returns-in-None c = halt c.loop-from.invariant c.until-k.ensures.0 c.entry_at.ensures.value
    c.take_line.ensures
    c.loop-from-test.true (omega (
      arith,
      long c.loop-from.invariant,
      c.if-out-end-lt-LINE_ROOM.false,
    )) c.in-None.is c.put_refusal-last.ensures

pub overflow_add-result : goal.overflow_add-result
overflow_add-result c = omega (arith, c.requires.memory_len.1, c.loop-from.invariant.inside)

pub returns : goal.returns
returns c = ended _ _ _ _ _ c.loop-from.invariant c.loop-from-test.false
