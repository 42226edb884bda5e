-- An image of any layout that has a cell: its size, and the number of the element. Assumes nothing.
use mathlib.Core.Path.{◌≡◌}
use mathlib.Core.List.{List}
use Prim.Native.Nat.{ℕ, ◌<◌}
use lib.Dec.{T, eqb, ltb, eqb→eq, ltb→lt}
use lib.Ieee.Fits.{and_l, and_r}
use lib.ListN.{length}
use Rattle.memory.specs.declared.Bank.{Bank}
use Rattle.memory.specs.Layout.{layout_of, ImageLayout, has_cell_in}

-- ---- an image that has the cell
module _ (F : ImageLayout) (s : List ℕ) (b : Bank) (i : ℕ) where
  pub has-size : T (has_cell_in F s b i) → length s ≡ F.size
  has-size h = eqb→eq (length s) F.size (and_l (eqb (length s) F.size) (ltb i (layout_of b).elements) h)

  pub has-element : T (has_cell_in F s b i) → i < (layout_of b).elements
  has-element h = ltb→lt i (layout_of b).elements (and_r (eqb (length s) F.size) (ltb i (layout_of b).elements) h)
