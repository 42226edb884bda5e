-- `totals::integers::bounds_of` meets its contract: an arm for each comparison.
use mathlib.Core.Path.{◌≡◌, refl}
use mir.Syntax.{w32}
use mir.Val.{to_z, of_z}
use mir.ValLaws.{to_z-of_z}
use Rattle.totals.proofs.integers.bounds_of.Goals as goal
use Rattle.totals.proofs.integers.bounds_of.Goals.{Start}

read_low : (s : Start) → to_z w32 (of_z w32 s.args.low) ≡ s.args.low
read_low s = to_z-of_z w32 s.args.low s.ranges.low

read-high : (s : Start) → to_z w32 (of_z w32 s.args.high) ≡ s.args.high
read-high s = to_z-of_z w32 s.args.high s.ranges.high

pub returns-in-Lt : goal.returns-in-Lt
returns-in-Lt c = rw (c.in-Lt.is, read_low (goal.at.returns-in-Lt c).Start) refl

pub returns-in-Gt : goal.returns-in-Gt
returns-in-Gt c = rw (c.in-Gt.is, read-high (goal.at.returns-in-Gt c).Start) refl

pub returns-in-Le : goal.returns-in-Le
returns-in-Le c = rw (c.in-Le.is, read-high (goal.at.returns-in-Le c).Start) refl

pub returns-in-Ge : goal.returns-in-Ge
returns-in-Ge c = rw (c.in-Ge.is, read_low (goal.at.returns-in-Ge c).Start) refl

pub returns-in-Eq : goal.returns-in-Eq
returns-in-Eq c = rw (c.in-Eq.is, read_low (goal.at.returns-in-Eq c).Start, read-high (goal.at.returns-in-Eq c).Start) refl

pub returns-in-Ne : goal.returns-in-Ne
returns-in-Ne c = rw (c.in-Ne.is, read_low (goal.at.returns-in-Ne c).Start, read-high (goal.at.returns-in-Ne c).Start) refl
