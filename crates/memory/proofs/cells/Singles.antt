-- A cell whose pattern is that of a finite single reads it; any other reads as 13. Assumes nothing.
use mathlib.Core.Path.{◌≡◌, refl}
use mathlib.Core.Bool.{true, false, true≢false, false≢true}
use Prim.Native.Nat.{ℕ}
use lib.Ieee.{Float, nan, inf, fin, binary32, of_bits}
use lib.Ieee.Scale.{finite}
use Rattle.values.specs.declared.Value.TheVariants.{Real}
use Rattle.values.specs.declared.Fault.TheVariants.{OutOfRange}
use Rattle.values.specs.declared.Outcome.TheVariants.{Done, Stopped}
use Rattle.memory.specs.Cells.{finite_or_fault, real_cell}

pub finite-read : (x : Float) → finite x ≡ true → finite_or_fault x ≡ Done (Real x)
finite-read nan h = absurd (false≢true h)
finite-read (inf s) h = absurd (false≢true h)
finite-read (fin s m e) h = refl

special-read : (x : Float) → finite x ≡ false → finite_or_fault x ≡ Stopped OutOfRange
special-read nan h = refl
special-read (inf s) h = refl
special-read (fin s m e) h = absurd (true≢false h)

pub finite-cell : (n : ℕ) → finite (of_bits binary32 n) ≡ true → real_cell n ≡ Done (Real (of_bits binary32 n))
finite-cell n h = finite-read (of_bits binary32 n) h

pub special-cell : (n : ℕ) → finite (of_bits binary32 n) ≡ false → real_cell n ≡ Stopped OutOfRange
special-cell n h = special-read (of_bits binary32 n) h
