-- A cell that the image has, and how large its element can be. Assumes nothing.
use mathlib.Core.Path.{◌≡◌}
use mathlib.Core.List.{List}
use Prim.Native.Nat.{ℕ, ◌≤◌, ◌<◌}
use native.Mathlib.Omega.{arith}
use lib.Dec.{T, lit≤}
use lib.ListN.{length}
use borrow.Author.Tests.{eq-eqb, lt-ltb}
use Rattle.memory.specs.declared.Bank.{Bank}
use Rattle.memory.specs.declared.Bank.TheVariants.{X, C, «V», N, D, R}
use Rattle.memory.specs.Layout.{image_size, layout_of, packed, has_cell}
use Rattle.memory.proofs.Places.{has-element}

few : (b : Bank) → (layout_of b).elements ≤ 256
few X = lit≤ tt
few C = lit≤ tt
few «V» = lit≤ tt
few N = lit≤ tt
few D = lit≤ tt
few R = lit≤ tt

pub element-small : (m : List ℕ) (b : Bank) (i : ℕ) → T (has_cell m b i) → i < 1000
element-small m b i h = omega (arith, has-element packed m b i h, few b)

pub has-cell : (m : List ℕ) (b : Bank) (i : ℕ) → length m ≡ image_size → i < (layout_of b).elements → T (has_cell m b i)
has-cell m b i l h = rw (eq-eqb (length m) image_size l, lt-ltb i (layout_of b).elements h) tt
