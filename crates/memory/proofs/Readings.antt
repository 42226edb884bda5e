-- What a cell of an image of any layout reads: a value of its bank's kind, and a proper one where its bytes are bytes; or a fault. Assumes nothing.
use mathlib.Core.Path.{◌≡◌, refl}
use mathlib.Core.Bool.{Bool, true, false, cond}
use mathlib.Core.List.{List}
use Prim.Native.Nat.{ℕ, ◌^◌, ◌<◌}
use native.Mathlib.Omega.{arith}
use lib.Dec.{T, eqb, lit<, lit≤}
use lib.IntN.{ℤ, pos}
use lib.Ieee.{Float, nan, inf, fin, of_bits, binary32}
use lib.Ieee.Scale.{finite}
use Rattle.words.specs.Laws.{Bytes}
use Rattle.values.specs.declared.Kind.TheVariants as K
use Rattle.values.specs.declared.Value.{Value}
use Rattle.values.specs.declared.Value.TheVariants.{Int, Real}
use Rattle.values.specs.declared.Fault.TheVariants.{OutOfRange, IndexError}
use Rattle.values.specs.declared.Outcome.{Outcome}
use Rattle.values.specs.declared.Outcome.TheVariants.{Done, Stopped}
use Rattle.values.specs.Integers.{in_range}
use Rattle.values.specs.Patterns.{signed_of}
use Rattle.values.proofs.Ranges.{sfits-range}
use Rattle.values.proofs.patterns.Exponents.{finite-single}
use Rattle.operators.specs.Laws.{Proper, OfKind, AllProper}
use Rattle.memory.specs.declared.Bank.{Bank}
use Rattle.memory.specs.declared.Bank.TheVariants.{X, C, «V», N, D, R}
use Rattle.memory.specs.Layout.{layout_of, ImageLayout, has_cell_in}
use Rattle.memory.specs.Cells.{bank_kind, bit_of, finite_or_fault, cell_value, real_cell, position_rule, read_in, indexed_in}
use Rattle.memory.specs.Laws.{LayoutLaws}
use Rattle.memory.proofs.Positions.{position-has}
use Rattle.memory.proofs.Places.{has-size, has-element}
use Rattle.memory.proofs.cells.Signs.{signed_range}
use Rattle.memory.proofs.cells.Singles.{finite-cell, special-cell}

-- a property of outcomes that a fault has, and the value of the cell
read_has : (P : Outcome → Type 0) → P (Stopped IndexError) → (F : ImageLayout) (s : List ℕ) (b : Bank) (i : ℕ)
    → (T (has_cell_in F s b i) → P (cell_value b (F.get s b i))) → P (read_in F s b i)
read_has P f F s b i h = by (has_cell_in F s b i) h
  where
    by : (t : Bool) → (T t → P (cell_value b (F.get s b i))) → P (cond t (cell_value b (F.get s b i)) (Stopped IndexError))
    by true u = u tt
    by false u = f

-- ---- the kind
real-kind : (x : Float) → OfKind K.Real (finite_or_fault x)
real-kind nan = OfKind.stopped OutOfRange
real-kind (inf s) = OfKind.stopped OutOfRange
real-kind (fin s m e) = OfKind.done (Real (fin s m e)) refl

cell-kind : (b : Bank) (n : ℕ) → OfKind (bank_kind b) (cell_value b n)
cell-kind X n = OfKind.done (Int (bit_of n)) refl
cell-kind C n = OfKind.done (Int (bit_of n)) refl
cell-kind «V» n = OfKind.done (Int (pos n)) refl
cell-kind N n = OfKind.done (Int (signed_of 16 n)) refl
cell-kind D n = OfKind.done (Int (signed_of 32 n)) refl
cell-kind R n = real-kind (of_bits binary32 n)

module _ (F : ImageLayout) (s : List ℕ) (b : Bank) where
  pub read-kind : (i : ℕ) → OfKind (bank_kind b) (read_in F s b i)
  read-kind i = read_has (OfKind (bank_kind b)) (OfKind.stopped IndexError) F s b i (λ h. cell-kind b (F.get s b i))

  pub indexed-kind : (v : Value) → OfKind (bank_kind b) (indexed_in F s b v)
  indexed-kind v = position-has (OfKind (bank_kind b)) (read_in F s b) read-kind (λ f. OfKind.stopped f) (position_rule b v)

-- ---- properness
integer : (z : ℤ) → in_range z ≡ true → AllProper (Done (Int z))
integer z e = AllProper.done (Int z) (Proper.int z (rw e tt))

bit-proper : (t : Bool) → AllProper (Done (Int (cond t (pos 0) (pos 1))))
bit-proper true = integer (pos 0) refl
bit-proper false = integer (pos 1) refl

real-proper : (n : ℕ) → AllProper (real_cell n)
real-proper n = by (finite (of_bits binary32 n)) refl
  where
    by : (t : Bool) → finite (of_bits binary32 n) ≡ t → AllProper (real_cell n)
    by true e = rw (finite-cell n e) (AllProper.done (Real (of_bits binary32 n)) (Proper.real (of_bits binary32 n) (finite-single n e)))
    by false e = rw (special-cell n e) (AllProper.stopped OutOfRange)

cell-proper : (b : Bank) (n : ℕ) → n < 256 ^ (layout_of b).width → AllProper (cell_value b n)
cell-proper X n h = bit-proper (eqb n 0)
cell-proper C n h = bit-proper (eqb n 0)
cell-proper «V» n h = integer (pos n) (sfits-range (pos n) (record { sfits = omega arith }))
cell-proper N n h = integer (signed_of 16 n) (signed_range 16 n (lit< tt) (lit≤ tt) h)
cell-proper D n h = integer (signed_of 32 n) (signed_range 32 n (lit< tt) (lit≤ tt) h)
cell-proper R n h = real-proper n

module _ (F : ImageLayout) (L : LayoutLaws F) (s : List ℕ) (b : Bank) (h : Bytes s) where
  pub read_proper : (i : ℕ) → AllProper (read_in F s b i)
  read_proper i =
      read_has AllProper (AllProper.stopped IndexError) F s b i
      (λ g. cell-proper b (F.get s b i) (L.get_below s b i (has-size F s b i g) (has-element F s b i g) h))

  pub indexed_proper : (v : Value) → AllProper (indexed_in F s b v)
  indexed_proper v = position-has AllProper (read_in F s b) read_proper (λ f. AllProper.stopped f) (position_rule b v)
