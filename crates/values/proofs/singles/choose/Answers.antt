-- `values::singles::choose` meets its contract: the second only where the machine's comparison says so.
use Rattle.std.proofs.Common.{◌≡◌, true, false}
use lib.Ieee.{lt}
use Rattle.values.proofs.singles.choose.Goals as goal

pub returns-then-x-y : goal.returns-then-x-y
returns-then-x-y c =
    let a = c.args in
    let above : lt a.x a.y ≡ true = c.if-x-y.true in
    rw (c.in-Max.is, above)

pub returns-else-x-y : goal.returns-else-x-y
returns-else-x-y c =
    let a = c.args in
    let not_above : lt a.x a.y ≡ false = c.if-x-y.false in
    rw (c.in-Max.is, not_above)

pub returns-then-y-x : goal.returns-then-y-x
returns-then-y-x c =
    let a = c.args in
    let below : lt a.y a.x ≡ true = c.if-y-x.true in
    rw (c.in-Min.is, below)

pub returns-else-y-x : goal.returns-else-y-x
returns-else-y-x c =
    let a = c.args in
    let not-below : lt a.y a.x ≡ false = c.if-y-x.false in
    rw (c.in-Min.is, not-below)
