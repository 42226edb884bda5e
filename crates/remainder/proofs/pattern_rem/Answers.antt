-- `remainder::pattern_rem` meets its contract: its places and digits are those of the law, so the law is cited as it stands.
use mathlib.Core.Path.{◌∙◌}
use native.Mathlib.Nat.{lt_trans, mod-lt}
use native.Mathlib.Omega.{arith}
use Rattle.remainder.proofs.Remainders.{of-patterns}
use Rattle.remainder.proofs.pattern_rem.Goals as goal

pub encode-requires : goal.encode-requires
encode-requires c = (rw c.shifted_rem-n.ensures (lt_trans (mod-lt _ (omega arith)) (omega arith)), omega arith)

pub returns : goal.returns
returns c =
    let a = c.args.a in
    let b = c.args.b in
    let n = c.shifted_rem-n.ensures in
    let j = c.place-j.ensures in
    let i = c.place-i.ensures in
    (c.encode.ensures.0, c.encode.ensures.1 ∙ rw (n, j, i) (of-patterns a b (omega arith) (omega arith)))
