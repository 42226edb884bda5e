-- `totals::neighbours::encloses` meets its contract: four tests, and that the value is finite.
use mathlib.Core.Path.{◌≡◌, sym, ap, ◌∙◌}
use mathlib.Core.Bool.{true, false≢true}
use lib.Dec.{T}
use lib.IntN.{ℤ, pos, ◌+ℤ◌}
use lib.Ieee.{binary32, fits, lt}
use lib.Ieee.Scale.{finite}
use mir.Syntax.{w32}
use mir.Val.{SFits, to_z, of_z}
use mir.ValLaws.{to_z-of_z}
use Rattle.values.specs.Convert.{promoted}
use Rattle.totals.proofs.neighbours.Enclosing.{enclosed, next_fits}
use borrow.Author.Rules.{rules}
use Rattle.totals.proofs.neighbours.encloses.Goals as goal
use Rattle.totals.proofs.neighbours.encloses.Goals.{Start}

read_below : (s : Start) → to_z w32 (of_z w32 s.args.below) ≡ s.args.below
read_below s = to_z-of_z w32 s.args.below s.ranges.below

read-high : (s : Start) → to_z w32 (of_z w32 s.args.high) ≡ s.args.high
read-high s = to_z-of_z w32 s.args.high s.ranges.high

next-below : (s : Start) → SFits w32 (to_z w32 (of_z w32 s.args.below) +ℤ pos 1)
next-below s = rw (read_below s) (next_fits s.args.below s.requires.0)

next-high : (s : Start) → SFits w32 (to_z w32 (of_z w32 s.args.high) +ℤ pos 1)
next-high s = rw (read-high s) (next_fits s.args.high s.requires.1)

pub returns-then-not-is_finite : goal.returns-then-not-is_finite
returns-then-not-is_finite c k = absurd (false≢true k)

pub overflow_add-below : goal.overflow_add-below
overflow_add-below c = next-below (goal.at.overflow_add-below c).Start

pub returns-then-is_less : goal.returns-then-is_less
returns-then-is_less c k = absurd (false≢true k)

pub returns-then-is_greater : goal.returns-then-is_greater
returns-then-is_greater c k = absurd (false≢true k)

pub overflow_add-high : goal.overflow_add-high
overflow_add-high c = next-high (goal.at.overflow_add-high c).Start

pub returns-then-is_less-2 : goal.returns-then-is_less-2
returns-then-is_less-2 c k =
    let s = (goal.at.returns-then-is_less-2 c).Start in
    let F : T (fits binary32 s.args.x) = search rules in
    let R : finite s.args.x ≡ true = sym c.is_finite.ensures ∙ c.if-not-is_finite.false in
    enclosed s.args.x (record { fit = F; real = rw R tt }) s.args.below s.args.high s.requires.0 s.requires.1
    (rw (read_below s) at (sym c.is_less-2.ensures ∙ c.if-is_less-2.true))
    (rw (read_below s, to_z-of_z w32 (s.args.below +ℤ pos 1) (next_fits s.args.below s.requires.0)) at (sym c.is_less.ensures ∙ c.if-is_less.false))
    (ap (λ (z : ℤ). lt s.args.x (promoted z)) (sym (read-high s)) ∙ sym c.is_greater.ensures ∙ c.if-is_greater.false)
    (rw (read-high s, to_z-of_z w32 (s.args.high +ℤ pos 1) (next_fits s.args.high s.requires.1)) at (sym c.is_greater-then-is_less-2.ensures ∙ k))

pub returns-else-is_less-2 : goal.returns-else-is_less-2
returns-else-is_less-2 c k = absurd (false≢true k)
