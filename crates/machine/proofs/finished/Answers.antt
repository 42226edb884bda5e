-- `finished` meets its contract: its tests are those of `finished_at`.
use borrow.Author.Tests.{lt-ltb, le-ltb, ne_eqb}
use Rattle.machine.proofs.finished.Goals as goal

pub returns-then-n-place : goal.returns-then-n-place
returns-then-n-place c = rw (lt-ltb c.args.n c.args.place c.if-n-place.true) c.stuck.ensures

pub returns-then-place-n : goal.returns-then-place-n
returns-then-place-n c = rw (
  le-ltb c.args.n c.args.place c.if-n-place.false,
  lt-ltb c.args.place c.args.n c.if-place-n.true,
) c.stuck-then-place-n.ensures

pub returns-then-h-eq1 : goal.returns-then-h-eq1
returns-then-h-eq1 c = rw (
  le-ltb c.args.n c.args.place c.if-n-place.false,
  le-ltb c.args.place c.args.n c.if-place-n.false,
  c.if-h-eq1.true,
)

pub returns-else-h-eq1 : goal.returns-else-h-eq1
returns-else-h-eq1 c = rw (
  le-ltb c.args.n c.args.place
      c.if-n-place.false,
  le-ltb c.args.place c.args.n
      c.if-place-n.false,
  ne_eqb c.args.h 1 c.if-h-eq1.false,
) c.stuck-else-h-eq1.ensures
