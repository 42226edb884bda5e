-- `values::integers::counted_power` meets its contract: an exponent from 1 to 64 goes to `binary_power`.
use Rattle.std.proofs.Common.{pos, sym, ◌∙◌, subst, w32}
use mir.ValLaws.{to_z-of_z}
use Rattle.values.specs.declared.Value.TheVariants.{Int}
use Rattle.values.specs.declared.Outcome.TheVariants.{Done}
use Rattle.values.specs.Multiplications.{PowerCount}
use Rattle.values.proofs.integers.Counts.{refused, taken}
use Rattle.values.proofs.integers.Squaring.{refused-count, zero-count}
use Rattle.values.proofs.integers.counted_power.Goals as goal

pub returns-in-None : goal.returns-in-None
returns-in-None c =
    let n = c.args.n in
    let found = rw (to_z-of_z w32 n c.ranges.n) at c.exponent.ensures in
    refused-count c.args.a n (refused n (sym found ∙ c.in-None.is))

pub returns-in-Some-eq0 : goal.returns-in-Some-eq0
returns-in-Some-eq0 c =
    let a = c.args.a in
    let n = c.args.n in
    let found = rw (to_z-of_z w32 n c.ranges.n) at c.exponent.ensures in
    let none = taken n 0 (sym found ∙ rw c.in-Some-eq0.field-0-test at c.in-Some-eq0.is) in
    subst (λ m. PowerCount a m (Done (Int (pos 1))) 0) (sym none) (zero-count a)

pub returns-in-Some : goal.returns-in-Some
returns-in-Some c =
    let r = c.binary_power.result in
    let n = c.args.n in
    let found = rw (to_z-of_z w32 n c.ranges.n) at c.exponent.ensures in
    let some = taken n c.in-Some.n (sym found ∙ c.in-Some.is) in
    subst (λ m. PowerCount c.args.a m r.outcome r.count) (sym some) (rw (to_z-of_z w32 c.args.a c.ranges.a) at c.binary_power.ensures)
