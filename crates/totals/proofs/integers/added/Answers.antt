-- `totals::integers::added` meets its contract: the sum at 64 bits is the sum.
use mathlib.Core.Path.{◌≡◌, sym, ◌∙◌}
use mathlib.Core.Bool.{true}
use lib.IntN.{◌+ℤ◌}
use mir.Syntax.{w32, w64}
use mir.Val.{SFits, to_z, of_z}
use mir.ValLaws.{to_z-of_z}
use Rattle.values.specs.Integers.{in_range}
use Rattle.values.proofs.Ranges.{range-sfits, read_wide}
use Rattle.values.proofs.integers.Results.{wide}
use Rattle.totals.proofs.integers.Whole.{wide_back}
use Rattle.totals.proofs.integers.added.Goals as goal
use Rattle.totals.proofs.integers.added.Goals.{Joined-wide, then-wide+else-not-in_range, else-wide}

sum_is : (c : Joined-wide) → to_z w64 (of_z w64 (wide c.args.a +ℤ wide c.args.z)) ≡ c.args.a +ℤ c.args.z
sum_is c = rw (read_wide c.args.a c.ranges.a) (wide_back c.args.a c.args.z c.ranges.a c.ranges.z)

stays : (c : Joined-wide) → in_range (c.args.a +ℤ c.args.z) ≡ true
stays c = elim c.if-wide.branch [
  | then-wide+else-not-in_range w ↦ rw (sum_is c) at (sym w.in_range.ensures ∙ w.if-not-in_range.false)
  | else-wide w ↦ c.requires w.if-wide.false
]

pub returns : goal.returns
returns c =
    let s = c.args.a +ℤ c.args.z in
    (rw (sum_is c) (to_z-of_z w32 s (range-sfits s (stays c))), stays c)
