-- `remainder::encode` meets its contract: a law for each way, and the room that n has.
use native.Mathlib.Omega.{arith}
use Rattle.remainder.proofs.Encodings.{room, subnormal, normal, none}
use Rattle.remainder.proofs.encode.Goals as goal

pub returns-then-n-eq0 : goal.returns-then-n-eq0
returns-then-n-eq0 c = none c.args.n c.args.j c.if-n-eq0.true

pub overflow_sub-room : goal.overflow_sub-room
overflow_sub-room c = omega (arith, (room c.args.n (omega arith) (omega arith)).least)

pub overflow_shl-result : goal.overflow_shl-result
overflow_shl-result c = omega (arith, (room c.args.n (omega arith) (omega arith)).most)

pub returns-then-j-room : goal.returns-then-j-room
returns-then-j-room c = subnormal c.args.n c.args.j (omega arith) (omega arith) (omega arith) (omega arith)

pub overflow_shl-result-2 : goal.overflow_shl-result-2
overflow_shl-result-2 c = omega (arith, (room c.args.n (omega arith) (omega arith)).most)

pub overflow_add-result : goal.overflow_add-result
overflow_add-result c = omega (arith, (normal c.args.n c.args.j (omega arith) (omega arith) (omega arith) (omega arith)).0)

pub returns : goal.returns
returns c = normal c.args.n c.args.j (omega arith) (omega arith) (omega arith) (omega arith)
