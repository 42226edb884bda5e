-- `outputs::fit` meets its contract: rooms that are enough, or measured.
use Rattle.card_salvage.proofs.outputs.Rooms.{roomy}
use native.Mathlib.Omega.{arith}
use Rattle.card_salvage.proofs.outputs.fit.Goals as goal

pub overflow_mul-size : goal.overflow_mul-size
overflow_mul-size c = omega (arith, c.if-size-lt-SHORT_FILE.true)

pub overflow_add-size : goal.overflow_add-size
overflow_add-size c = omega (arith, c.if-size-lt-SHORT_FILE.true)

pub returns-then-size-other : goal.returns-then-size-other
returns-then-size-other c = roomy c.args.file.now c.if-size-lt-SHORT_FILE.true c.if-size-room.true c.if-size-other.true

pub returns : goal.returns
returns c = c.measure.ensures
