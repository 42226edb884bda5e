-- `totals::tally::promoted_cell` meets its contract: up to 2 ^ 24 the cast is exact.
use Prim.Native.Nat.{◌≤◌}
use native.Mathlib.Omega.{arith}
use lib.Dec.{T, lt→ltb, le→leb}
use lib.IntN.{ℤ, pos, negsuc, nat_abs}
use lib.Ieee.{binary32, in_float}
use mir.Syntax.{w32}
use mir.ValLaws.{to_z-of_z}
use Rattle.totals.proofs.tally.promoted_cell.Goals as goal

narrow-float : (z : ℤ) → nat_abs z ≤ 65536 → T (in_float binary32 z)
unfolding in_float
narrow-float (pos n) h = le→leb n 16777216 (omega arith)
narrow-float (negsuc n) h = lt→ltb n 16777216 (omega arith)

pub int_to_float-result : goal.int_to_float-result
int_to_float-result c =
    rw (to_z-of_z w32 c.args.z c.ranges.z) (narrow-float c.args.z (c.requires c.if-wide.false))

pub returns-then-wide : goal.returns-then-wide
returns-then-wide c = rw (to_z-of_z w32 c.args.z c.ranges.z) at c.promote.ensures
